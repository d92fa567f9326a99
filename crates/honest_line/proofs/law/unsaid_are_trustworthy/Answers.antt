use Rattle.honest_line.proofs.Trusted.{trustworthy_unsaid}
use Rattle.honest_line.proofs.law.unsaid_are_trustworthy.Goals as goal

pub returns : goal.returns
returns c = trustworthy_unsaid
