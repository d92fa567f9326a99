use Rattle.std.proofs.Common.{rules}
use Rattle.host_devices.proofs.memory_keep.MemoryKeep.new.Goals as goal

pub returns : goal.returns
returns c = search rules
