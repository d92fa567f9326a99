use Rattle.std.proofs.Common.{rules}
use Rattle.byte_io.proofs.text.put_octal.Goals as goal

pub returns : goal.returns
returns c = search rules
