use Rattle.std.proofs.Common.{rules}
use Rattle.machine_probe.proofs.probe_options.ProbeOptions.turns.Goals as goal

pub returns : goal.returns
returns c = search rules
