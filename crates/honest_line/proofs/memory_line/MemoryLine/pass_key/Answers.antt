use Rattle.std.proofs.Common.{rules}
use Rattle.honest_line.proofs.memory_line.MemoryLine.pass_key.Goals as goal

pub returns-then-not-loses_key : goal.returns-then-not-loses_key
returns-then-not-loses_key c = search rules
