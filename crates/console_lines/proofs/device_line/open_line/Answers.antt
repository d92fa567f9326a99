use Rattle.std.proofs.Common.{rules}
use Rattle.console_lines.proofs.device_line.open_line.Goals as goal

pub returns-in-Err-clause-fault : goal.returns-in-Err-clause-fault
returns-in-Err-clause-fault g c = search rules
