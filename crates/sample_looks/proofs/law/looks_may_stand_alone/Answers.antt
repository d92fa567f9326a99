use Rattle.sample_looks.proofs.First.{stand_alone}
use Rattle.sample_looks.proofs.law.looks_may_stand_alone.Goals as goal

pub returns : goal.returns
returns c = stand_alone
