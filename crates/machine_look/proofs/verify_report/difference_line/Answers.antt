use Rattle.std.proofs.Common.{rules}
use Rattle.machine_look.proofs.verify_report.difference_line.Goals as goal

pub push_bytes-requires-4 : goal.push_bytes-requires-4
push_bytes-requires-4 c = search rules
