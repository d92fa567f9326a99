use Rattle.load_lives.proofs.FastFirst.{come_first}
use Rattle.load_lives.proofs.fast_law.fast_lives_may_look_first.Goals as goal

pub returns : goal.returns
returns c = come_first
