use Rattle.std.proofs.Common.{rules}
use Rattle.probe_report.proofs.report.push_top.Goals as goal

pub returns : goal.returns
returns c = search rules
