use Rattle.std.proofs.Common.{ℕ, ◌≡◌, ◌<◌, ◌∙◌, List, length, sym, subst, arith, true}
use Rattle.std.specs.Prelude.{slice_index}
use Rattle.line_world.proofs.Stepped.{changed_one}
use Rattle.line_world.specs.Wire.{may_change}
use Rattle.line_world.specs.Invariant.{IsKept}
use Rattle.line_world.proofs.Frame.{scene}
use Rattle.line_world.proofs.Changes.{kept_change_down}
use Rattle.line_world.proofs.Fields.{lost_fits, written, may_be, under_of}
use Rattle.line_world.proofs.world.World.change_down.Goals as goal

pub invariant_of-self : goal.invariant_of-self
invariant_of-self c =
    let w = c.self.inside in
    let below : c.from-place.result < length w.down.items = under_of c.from-place.result c.len.result (length w.down.items) c.len.ensures.value c.if-place-len.false in
    let may : may_change w.changed (slice_index w.down.items c.from-place.result) c.args.key ≡ true = subst (λ (l : List ℕ). may_change w.changed (slice_index l c.from-place.result) c.args.key ≡ true) c.deref.ensures.0 (sym c.may_change.ensures ∙ c.if-not-may_change.false) in
    subst (λ (l : List ℕ). IsKept (scene w.odt w.core l w.up.items (changed_one (record { count = w.lost; hurt = w.changed })))) (sym (written w.down.items c.deref_mut.result.now c.from-place.result c.args.key c.deref_mut.ensures.value))
    (kept_change_down w.odt w.core w.down.items w.up.items (record { count = w.lost; hurt = w.changed }) c.from-place.result c.args.key (may_be w.core.careful c.from-place.result (length w.down.items) _ (sym c.is_careful.ensures.value ∙ c.if-not-is_careful.false) below may) c.self.invariant)

pub overflow_add-self : goal.overflow_add-self
overflow_add-self c = let w = c.self.inside in omega (arith, lost_fits w.odt w.core w.down.items w.up.items (record { count = w.lost; hurt = w.changed }) c.self.invariant)
