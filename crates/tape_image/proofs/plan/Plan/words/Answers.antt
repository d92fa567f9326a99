use Rattle.std.proofs.Common.{subst, rules}
use Rattle.tape_image.specs.Plan.{PlanValue}
use Rattle.tape_image.specs.Overlay.{MakesOverlay}
use Rattle.tape_image.proofs.OverlayLaw.{merged_words-overlay}
use Rattle.tape_image.proofs.plan.Plan.words.Goals as goal

pub returns-clause-overlay : goal.returns-clause-overlay
returns-clause-overlay c = subst (λ (p : PlanValue). MakesOverlay p.image p.words) c.self.view_is (merged_words-overlay _ c.self.invariant)

pub returns-clause-value : goal.returns-clause-value
returns-clause-value c = search rules

pub returns-clause-sound : goal.returns-clause-sound
returns-clause-sound c = search rules
