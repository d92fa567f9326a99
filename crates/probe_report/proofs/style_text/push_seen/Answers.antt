use Rattle.std.proofs.Common.{arith}
use Rattle.std.proofs.lemmas.Grind.{common_steps}
use Rattle.probe_report.proofs.style_text.push_seen.Goals as goal

pub returns : goal.returns
returns c = grind (arith, common_steps) steps 2000000
