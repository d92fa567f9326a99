use Rattle.std.proofs.Common.{refl, arith}
use Rattle.line_world.proofs.Losses.{kept_lose_up}
use Rattle.line_world.proofs.Fields.{lost_fits}
use Rattle.line_world.proofs.world.World.lose_up.Goals as goal

pub invariant_of-self-2 : goal.invariant_of-self-2
invariant_of-self-2 c =
    let w = c.self.inside in
    rw c.in-Some.ensures.items (kept_lose_up w.odt w.core w.down.items w.up.items (record { count = w.lost; hurt = w.changed }) c.from.result (c.in-Some.ensures.variant.0 refl) c.self.invariant)

pub overflow_add-self : goal.overflow_add-self
overflow_add-self c = let w = c.self.inside in omega (arith, lost_fits w.odt w.core w.down.items w.up.items (record { count = w.lost; hurt = w.changed }) c.self.invariant)
