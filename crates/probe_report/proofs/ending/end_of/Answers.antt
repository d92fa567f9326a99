use Rattle.std.proofs.Common.{rules}
use Rattle.probe_report.proofs.ending.end_of.Goals as goal

pub returns-in-GaveUp : goal.returns-in-GaveUp
returns-in-GaveUp c = search rules
