use Rattle.looking_law.proofs.Tidy.{trials_tidy}
use Rattle.looking_law.proofs.trying.trials_end_tidily.Goals as goal

pub returns : goal.returns
returns c = trials_tidy
