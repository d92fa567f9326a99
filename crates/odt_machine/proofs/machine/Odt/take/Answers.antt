use Rattle.std.proofs.Common.{rules}
use Rattle.odt_machine.proofs.machine.Odt.take.Goals as goal

pub returns-in-Typing-clause-machine : goal.returns-in-Typing-clause-machine
returns-in-Typing-clause-machine c = search rules

pub returns-in-Typing-clause-stores : goal.returns-in-Typing-clause-stores
returns-in-Typing-clause-stores c = search rules

pub returns-in-Typing-clause-illegal : goal.returns-in-Typing-clause-illegal
returns-in-Typing-clause-illegal c = search rules
