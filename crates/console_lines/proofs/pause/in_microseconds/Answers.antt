use Rattle.std.proofs.Common.{rules}
use Rattle.console_lines.proofs.pause.in_microseconds.Goals as goal

pub returns : goal.returns
returns c = search rules
