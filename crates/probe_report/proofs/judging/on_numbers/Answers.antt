use Rattle.std.proofs.Common.{rules}
use Rattle.probe_report.proofs.judging.on_numbers.Goals as goal

pub returns-then-is_stored : goal.returns-then-is_stored
returns-then-is_stored c = search rules

pub returns-else-is_stored : goal.returns-else-is_stored
returns-else-is_stored c = search rules
