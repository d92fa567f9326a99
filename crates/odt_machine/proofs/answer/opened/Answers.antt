use Rattle.std.proofs.Common.{rules}
use Rattle.odt_machine.proofs.answer.opened.Goals as goal

pub returns : goal.returns
returns c = search rules
