use Rattle.sample_looks.proofs.First.{come_first}
use Rattle.sample_looks.proofs.law.looks_may_come_first.Goals as goal

pub returns : goal.returns
returns c = come_first
