use Rattle.looking_law.proofs.Runs.{others_follow}
use Rattle.looking_law.proofs.trying.others_may_follow.Goals as goal

pub returns : goal.returns
returns c = others_follow
