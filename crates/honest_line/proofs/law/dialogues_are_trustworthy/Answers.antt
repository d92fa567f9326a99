use Rattle.honest_line.proofs.Trusted.{trustworthy}
use Rattle.honest_line.proofs.law.dialogues_are_trustworthy.Goals as goal

pub returns : goal.returns
returns c = trustworthy
