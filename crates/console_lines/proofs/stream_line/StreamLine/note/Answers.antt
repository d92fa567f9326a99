use Rattle.std.proofs.Common.{rules}
use Rattle.console_lines.proofs.stream_line.StreamLine.note.Goals as goal

pub returns-then-is_some : goal.returns-then-is_some
returns-then-is_some g c = search rules
