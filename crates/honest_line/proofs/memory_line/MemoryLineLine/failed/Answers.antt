use Rattle.std.proofs.Common.{rules}
use Rattle.honest_line.proofs.memory_line.MemoryLineLine.failed.Goals as goal

pub returns : goal.returns
returns c = search rules
