use Rattle.honest_line.proofs.Lines.{hearing_moved, hearing_reached}
use Rattle.honest_line.proofs.memory_line.MemoryLineLine.hear.Goals as goal

pub returns-clause-moved : goal.returns-clause-moved
returns-clause-moved c = hearing_moved c.args.self.now c.judge.new.self c.pass_heard.new.self c.pass_heard.result c.judge.result c.in_default.is c.judge.ensures.next c.pass_heard.ensures.next c.pass_heard.ensures.heard

pub returns-clause-reached : goal.returns-clause-reached
returns-clause-reached c = λ opening reached. hearing_reached opening c.args.self.now c.judge.new.self c.pass_heard.new.self c.judge.result c.in_default.is c.judge.ensures.next c.pass_heard.ensures.next reached
