use Rattle.std.proofs.Common.{rules}
use Rattle.honest_line.proofs.memory_line.MemoryLine.new.Goals as goal

pub returns-clause-line : goal.returns-clause-line
returns-clause-line c = search rules
