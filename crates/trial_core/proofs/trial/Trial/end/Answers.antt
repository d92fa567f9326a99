use Rattle.std.proofs.Common.{rules}
use Rattle.trial_core.proofs.trial.Trial.end.Goals as goal

pub returns-in-Ended : goal.returns-in-Ended
returns-in-Ended c = search rules
