use Rattle.std.proofs.Common.{rules}
use Rattle.host_core.proofs.table.whole_reading.Goals as goal

pub returns-in-Look : goal.returns-in-Look
returns-in-Look c = search rules

pub returns-in-Check : goal.returns-in-Check
returns-in-Check c = search rules
