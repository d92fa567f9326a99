use Rattle.std.proofs.Common.{ℕ, ◌<◌, ◌∙◌, List, length, sym, subst, arith}
use Rattle.line_world.proofs.Stepped.{changed_one}
use Rattle.line_world.specs.Invariant.{IsKept}
use Rattle.line_world.proofs.Frame.{scene}
use Rattle.line_world.proofs.Changes.{kept_change_up}
use Rattle.line_world.proofs.Fields.{lost_fits, written, may_be, not_hurt, under_of}
use Rattle.line_world.proofs.world.World.change_up.Goals as goal

pub invariant_of-self : goal.invariant_of-self
invariant_of-self c =
    let w = c.self.inside in
    let below : c.from-place.result < length w.up.items = under_of c.from-place.result c.len.result (length w.up.items) c.len.ensures.value c.if-place-len.false in
    subst (λ (l : List ℕ). IsKept (scene w.odt w.core w.down.items l (changed_one (record { count = w.lost; hurt = w.changed })))) (sym (written w.up.items c.deref_mut.result.now c.from-place.result c.args.character c.deref_mut.ensures.value))
    (kept_change_up w.odt w.core w.down.items w.up.items (record { count = w.lost; hurt = w.changed }) c.from-place.result c.args.character (may_be w.core.careful c.from-place.result (length w.up.items) _ (sym c.is_careful.ensures.value ∙ c.if-not-is_careful.false) below (not_hurt w.changed c.if-self.false)) c.self.invariant)

pub overflow_add-self : goal.overflow_add-self
overflow_add-self c = let w = c.self.inside in omega (arith, lost_fits w.odt w.core w.down.items w.up.items (record { count = w.lost; hurt = w.changed }) c.self.invariant)
