use Rattle.std.proofs.Common.{rules}
use Rattle.trial_core.proofs.trial.Trial.taken.Goals as goal

pub returns-in-Timeout-clause-next : goal.returns-in-Timeout-clause-next
returns-in-Timeout-clause-next c = search rules

pub returns-in-Timeout-clause-key : goal.returns-in-Timeout-clause-key
returns-in-Timeout-clause-key c = search rules
