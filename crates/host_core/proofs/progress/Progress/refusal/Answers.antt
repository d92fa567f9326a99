use Rattle.std.proofs.Common.{rules}
use Rattle.host_core.proofs.progress.Progress.refusal.Goals as goal

pub returns-then-is_none-clause-refusal : goal.returns-then-is_none-clause-refusal
returns-then-is_none-clause-refusal c = search rules

pub returns-else-self-clause-refusal : goal.returns-else-self-clause-refusal
returns-else-self-clause-refusal c = search rules
