use Rattle.load_lives.proofs.Planning.{planned_stubs}
use Rattle.load_lives.proofs.fast_law.planned_stubs_are_stubs.Goals as goal

pub returns : goal.returns
returns c = planned_stubs
