use Rattle.std.proofs.Common.{rules}
use Rattle.console_lines.proofs.stream_line.StreamLine.new.Goals as goal

pub returns-then-is_err-clause-fault : goal.returns-then-is_err-clause-fault
returns-then-is_err-clause-fault g c = search rules
