use Rattle.load_lives.proofs.FastChains.{fast_lives_are_trusted}
use Rattle.load_lives.proofs.fast_law.fast_lives_are_trusted.Goals as goal

pub returns : goal.returns
returns c = fast_lives_are_trusted
