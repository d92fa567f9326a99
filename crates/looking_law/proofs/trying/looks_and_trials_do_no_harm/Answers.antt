use Rattle.looking_law.proofs.Runs.{no_harm}
use Rattle.looking_law.proofs.trying.looks_and_trials_do_no_harm.Goals as goal

pub returns : goal.returns
returns c = no_harm
