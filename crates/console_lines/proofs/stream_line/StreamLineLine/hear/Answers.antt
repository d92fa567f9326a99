use Rattle.std.proofs.Common.{rules}
use Rattle.console_lines.proofs.stream_line.StreamLineLine.hear.Goals as goal

pub returns-clause-silence : goal.returns-clause-silence
returns-clause-silence g c = search rules

pub returns-clause-over : goal.returns-clause-over
returns-clause-over g c = search rules
