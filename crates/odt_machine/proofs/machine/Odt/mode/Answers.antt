use Rattle.std.proofs.Common.{rules}
use Rattle.odt_machine.proofs.machine.Odt.mode.Goals as goal

pub returns-clause-value : goal.returns-clause-value
returns-clause-value c = search rules

pub returns-clause-machine : goal.returns-clause-machine
returns-clause-machine c = search rules
