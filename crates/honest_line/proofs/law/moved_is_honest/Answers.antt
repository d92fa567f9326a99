use Rattle.honest_line.proofs.Wires.{moved_is_honest}
use Rattle.honest_line.proofs.law.moved_is_honest.Goals as goal

pub returns : goal.returns
returns c = moved_is_honest
