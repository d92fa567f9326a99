use Rattle.std.proofs.Common.{rules}
use Rattle.probe_report.proofs.judging.is_stored.Goals as goal

pub returns-in-Tried : goal.returns-in-Tried
returns-in-Tried c = search rules
