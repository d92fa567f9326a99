use Rattle.std.proofs.Common.{rules}
use Rattle.byte_io.proofs.text.put_decimal.Goals as goal

pub returns-in-Ok : goal.returns-in-Ok
returns-in-Ok c = search rules
