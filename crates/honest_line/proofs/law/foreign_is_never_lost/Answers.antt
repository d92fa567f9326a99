use Rattle.honest_line.proofs.Foreign.{nothing_foreign}
use Rattle.honest_line.proofs.law.foreign_is_never_lost.Goals as goal

pub returns : goal.returns
returns c = nothing_foreign
