use Rattle.std.proofs.Common.{rules}
use Rattle.host_devices.proofs.memory_keep.MemoryKeepKeep.add.Goals as goal

pub returns-clause-next : goal.returns-clause-next
returns-clause-next c = search rules
