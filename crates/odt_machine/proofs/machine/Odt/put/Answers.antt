use Rattle.std.proofs.Common.{rules}
use Rattle.odt_machine.proofs.machine.Odt.put.Goals as goal

pub returns-clause-done : goal.returns-clause-done
returns-clause-done c = search rules

pub returns-clause-only : goal.returns-clause-only
returns-clause-only c = search rules
