use Rattle.std.proofs.Common.{rules}
use Rattle.endings.proofs.status.Status.of_end.Goals as goal

pub returns-in-GaveUp : goal.returns-in-GaveUp
returns-in-GaveUp c = search rules
