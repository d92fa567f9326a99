use Rattle.honest_line.proofs.Lines.{call_moved, call_reached}
use Rattle.std.proofs.Common.{rules}
use Rattle.honest_line.proofs.memory_line.MemoryLineLine.send.Goals as goal

pub returns-clause-moved : goal.returns-clause-moved
returns-clause-moved c = call_moved c.args.self.now c.judge.new.self c.pass_key.new.self c.args.key c.judge.result c.in_default.is c.judge.ensures.next c.pass_key.ensures

pub returns-clause-reached : goal.returns-clause-reached
returns-clause-reached c = λ opening reached. call_reached opening c.args.self.now c.judge.new.self c.pass_key.new.self c.args.key c.judge.result c.in_default.is c.judge.ensures.next c.pass_key.ensures reached

pub pass_key-requires-clause-short : goal.pass_key-requires-clause-short
pass_key-requires-clause-short c = search rules

pub returns-clause-next : goal.returns-clause-next
returns-clause-next c = search rules

pub returns-clause-answer : goal.returns-clause-answer
returns-clause-answer c = search rules
