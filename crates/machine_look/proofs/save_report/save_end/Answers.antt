use Rattle.std.proofs.Common.{rules}
use Rattle.machine_look.proofs.save_report.save_end.Goals as goal

pub returns-in-Ok-GaveUp : goal.returns-in-Ok-GaveUp
returns-in-Ok-GaveUp c = search rules
