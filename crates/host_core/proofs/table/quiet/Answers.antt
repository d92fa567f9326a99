use Rattle.std.proofs.Common.{rules}
use Rattle.host_core.proofs.table.quiet.Goals as goal

pub returns-in-Settle : goal.returns-in-Settle
returns-in-Settle c = search rules

pub returns-in-Go : goal.returns-in-Go
returns-in-Go c = search rules
