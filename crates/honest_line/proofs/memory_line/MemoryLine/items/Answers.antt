use Rattle.std.proofs.Common.{rules}
use Rattle.honest_line.proofs.memory_line.MemoryLine.items.Goals as goal

pub returns-clause-value : goal.returns-clause-value
returns-clause-value c = search rules
