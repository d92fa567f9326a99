use Rattle.std.proofs.Common.{rules}
use Rattle.honest_line.proofs.memory_line.MemoryLine.pass_heard.Goals as goal

pub returns-clause-next : goal.returns-clause-next
returns-clause-next c = search rules

pub returns-clause-heard : goal.returns-clause-heard
returns-clause-heard c = search rules
