use Rattle.std.proofs.Common.{rules}
use Rattle.host_devices.proofs.memory_keep.MemoryKeepKeep.mark.Goals as goal

pub returns-clause-next : goal.returns-clause-next
returns-clause-next c = search rules

pub returns-clause-answer : goal.returns-clause-answer
returns-clause-answer c = search rules
