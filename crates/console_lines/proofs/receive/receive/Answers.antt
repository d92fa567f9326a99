use Rattle.std.proofs.Common.{rules}
use Rattle.console_lines.proofs.receive.receive.Goals as goal

pub returns-in-Ok-clause-received : goal.returns-in-Ok-clause-received
returns-in-Ok-clause-received g c = search rules

pub returns-in-Ok-eq0-clause-silence : goal.returns-in-Ok-eq0-clause-silence
returns-in-Ok-eq0-clause-silence g c = search rules

pub returns-in-Ok-eq0-clause-over : goal.returns-in-Ok-eq0-clause-over
returns-in-Ok-eq0-clause-over g c = search rules
