use Rattle.std.proofs.Common.{rules}
use Rattle.odt_machine.proofs.machine.Odt.style.Goals as goal

pub returns-clause-value : goal.returns-clause-value
returns-clause-value c = search rules
