use Rattle.std.proofs.Common.{rules}
use Rattle.machine_load.proofs.report.push_stop_name.Goals as goal

pub returns-in-KeepFailed-clause-items : goal.returns-in-KeepFailed-clause-items
returns-in-KeepFailed-clause-items c = search rules
