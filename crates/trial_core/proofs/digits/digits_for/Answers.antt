use Rattle.std.proofs.Common.{rules}
use Rattle.trial_core.proofs.digits.digits_for.Goals as goal

pub returns-in-1-clause-value : goal.returns-in-1-clause-value
returns-in-1-clause-value c = search rules

pub returns-in-1-clause-apart : goal.returns-in-1-clause-apart
returns-in-1-clause-apart c = search rules
