use Rattle.std.proofs.Common.{rules}
use Rattle.host_devices.proofs.memory_keep.MemoryKeepKeep.failed.Goals as goal

pub returns : goal.returns
returns c = search rules
