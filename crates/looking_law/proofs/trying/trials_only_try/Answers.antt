use Rattle.looking_law.proofs.Trials.{only_try}
use Rattle.looking_law.proofs.trying.trials_only_try.Goals as goal

pub returns : goal.returns
returns c = only_try
