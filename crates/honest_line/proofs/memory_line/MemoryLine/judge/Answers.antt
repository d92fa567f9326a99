use Rattle.std.proofs.Common.{rules}
use Rattle.honest_line.proofs.memory_line.MemoryLine.judge.Goals as goal

pub returns-clause-answer : goal.returns-clause-answer
returns-clause-answer c = search rules

pub returns-clause-next : goal.returns-clause-next
returns-clause-next c = search rules
