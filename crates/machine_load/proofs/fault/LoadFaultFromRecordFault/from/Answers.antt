use Rattle.std.proofs.Common.{rules}
use Rattle.machine_load.proofs.fault.LoadFaultFromRecordFault.from.Goals as goal

pub returns-in-InUse : goal.returns-in-InUse
returns-in-InUse c = search rules
