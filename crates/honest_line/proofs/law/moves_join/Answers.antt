use Rattle.honest_line.proofs.Wires.{moves_join}
use Rattle.honest_line.proofs.law.moves_join.Goals as goal

pub returns : goal.returns
returns c = moves_join
