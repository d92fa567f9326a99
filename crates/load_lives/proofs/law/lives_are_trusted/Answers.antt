use Rattle.load_lives.proofs.Chains.{lives_are_trusted}
use Rattle.load_lives.proofs.law.lives_are_trusted.Goals as goal

pub returns : goal.returns
returns c = lives_are_trusted
