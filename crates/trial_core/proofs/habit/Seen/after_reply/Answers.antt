use Rattle.std.proofs.Common.{rules}
use Rattle.trial_core.proofs.habit.Seen.after_reply.Goals as goal

pub returns-in_default : goal.returns-in_default
returns-in_default c = search rules
