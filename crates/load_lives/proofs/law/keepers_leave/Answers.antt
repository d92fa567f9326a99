use Rattle.load_lives.proofs.Keepers.{keepers_leave}
use Rattle.load_lives.proofs.law.keepers_leave.Goals as goal

pub returns : goal.returns
returns c = keepers_leave
