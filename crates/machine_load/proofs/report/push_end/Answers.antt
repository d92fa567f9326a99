use Rattle.std.proofs.Common.{rules}
use Rattle.machine_load.proofs.report.push_end.Goals as goal

pub push_bytes-requires-2 : goal.push_bytes-requires-2
push_bytes-requires-2 c = search rules
