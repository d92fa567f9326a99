use Rattle.load_lives.proofs.Stopping.{sessions_are_lives}
use Rattle.load_lives.proofs.law.sessions_are_lives.Goals as goal

pub returns : goal.returns
returns c = sessions_are_lives
