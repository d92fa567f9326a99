use Rattle.std.proofs.Common.{rules}
use Rattle.odt_machine.proofs.key.Key.of.Goals as goal

pub returns-in-13 : goal.returns-in-13
returns-in-13 c = search rules
