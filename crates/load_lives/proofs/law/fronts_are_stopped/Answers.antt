use Rattle.load_lives.proofs.Stopping.{fronts_are_stopped}
use Rattle.load_lives.proofs.law.fronts_are_stopped.Goals as goal

pub returns : goal.returns
returns c = fronts_are_stopped
