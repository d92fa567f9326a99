use Rattle.std.proofs.Common.{rules}
use Rattle.honest_line.proofs.memory_line.MemoryLine.waiting.Goals as goal

pub returns : goal.returns
returns c = search rules
