use Rattle.std.proofs.Common.{rules}
use Rattle.machine_probe.proofs.runs.trial_findings_of.Goals as goal

pub returns : goal.returns
returns c = search rules
