use Rattle.std.proofs.Common.{rules}
use Rattle.host_devices.proofs.memory_keep.MemoryKeep.keep.Goals as goal

pub returns-then-is_err-clause-next : goal.returns-then-is_err-clause-next
returns-then-is_err-clause-next c = search rules

pub returns-then-is_err-clause-answer : goal.returns-then-is_err-clause-answer
returns-then-is_err-clause-answer c = search rules
