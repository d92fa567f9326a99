use Rattle.std.proofs.Common.{rules}
use Rattle.odt_machine.proofs.machine.Odt.top.Goals as goal

pub returns : goal.returns
returns c = search rules
