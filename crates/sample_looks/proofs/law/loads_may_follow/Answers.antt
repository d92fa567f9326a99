use Rattle.sample_looks.proofs.First.{may_follow}
use Rattle.sample_looks.proofs.law.loads_may_follow.Goals as goal

pub returns : goal.returns
returns c = may_follow
