use Rattle.std.proofs.Common.{sym, subst, ap, List}
use Rattle.tape_image.specs.Word.{WordValue}
use Rattle.tape_image.specs.Plan.{PlanValue, plan_with, IsPlan}
use Rattle.tape_image.proofs.SameWords.{plan_words}
use Rattle.tape_image.proofs.plan.Plan.of_pages.Goals as goal

-- the plan of these words
abbrev with_words : PlanValue → List WordValue → PlanValue
with_words plan words = record plan { words = words }

pub invariant_of-result : goal.invariant_of-result
invariant_of-result c = subst (λ (words : List WordValue). IsPlan (with_words (plan_with c.args.pages c.args.start) words)) (sym c.in_ok-words.ensures) c.requires

pub returns-clause-plan : goal.returns-clause-plan
returns-clause-plan c = ap (with_words (plan_with c.args.pages c.args.start)) c.in_ok-words.ensures

pub returns-clause-words : goal.returns-clause-words
returns-clause-words c = plan_words (with_words (plan_with c.args.pages c.args.start) c.in_ok-words.words.items) (invariant_of-result c)

pub returns-clause-sound : goal.returns-clause-sound
returns-clause-sound c = invariant_of-result c
