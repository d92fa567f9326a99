use Rattle.std.proofs.Common.{rules}
use Rattle.probe_report.proofs.report.push_word.Goals as goal

pub returns-in_default : goal.returns-in_default
returns-in_default c = search rules
