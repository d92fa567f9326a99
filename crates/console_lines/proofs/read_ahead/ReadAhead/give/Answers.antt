use Rattle.std.proofs.Common.{rules, arith}
use Rattle.console_lines.proofs.Ahead.{gives_first}
use Rattle.console_lines.proofs.read_ahead.ReadAhead.give.Goals as goal

pub returns-clause-given : goal.returns-clause-given
returns-clause-given g c = gives_first c.args.self.now.bytes c.args.self.now.given c.args.self.now.filled c.args.buf.now (search (rules, arith)) (search (rules, arith)) (search (rules, arith))
