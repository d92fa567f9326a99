use Rattle.std.proofs.Common.{rules}
use Rattle.tape_image.proofs.plan.Plan.starting.Goals as goal

pub returns-in-At-clause-value : goal.returns-in-At-clause-value
returns-in-At-clause-value c = search rules

pub returns-in-Nowhere-clause-value : goal.returns-in-Nowhere-clause-value
returns-in-Nowhere-clause-value c = search rules
