use Rattle.std.proofs.Common.{rules}
use Rattle.tape_image.proofs.plan.Plan.of.Goals as goal

pub returns-clause-plan : goal.returns-clause-plan
returns-clause-plan c = search rules

pub returns-clause-bytes : goal.returns-clause-bytes
returns-clause-bytes c = search rules
