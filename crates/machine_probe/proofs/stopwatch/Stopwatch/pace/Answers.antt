use Rattle.std.proofs.Common.{rules}
use Rattle.machine_probe.proofs.stopwatch.Stopwatch.pace.Goals as goal

pub returns-clause-key : goal.returns-clause-key
returns-clause-key c = search rules
