use Rattle.std.proofs.Common.{◌≡◌, [], ◌∙◌, ap, subst}
use Rattle.std.specs.Prelude.{option_to_list}
use Rattle.line_world.specs.declared.event.Event.TheVariants.{Quiet}
use Rattle.line_world.specs.Scene.{Scene}
use Rattle.line_world.specs.World.{happens}
use Rattle.line_world.proofs.Frame.{scene}
use Rattle.line_world.proofs.Fields.{silent_fields, silent_world, nothing_there}
use Rattle.line_world.proofs.world.World.time_out.Goals as goal

pub invariant_of-self : goal.invariant_of-self
invariant_of-self c =
    let w = c.self.inside in
    let none : w.down.items ≡ [] = nothing_there w.down.items c.is_empty.result c.is_empty.ensures c.if-not-is_empty.false in
    let empty : w.up.items ≡ [] = nothing_there w.up.items c.is_empty-else-not-is_empty.result c.is_empty-else-not-is_empty.ensures c.if-not-is_empty-2.false in
    silent_fields w.odt w.core w.down.items w.up.items (record { count = w.lost; hurt = w.changed }) _ _ _ c.self.invariant none empty c.step-key.ensures.next
    (c.send.ensures ∙ ap option_to_list c.step-key.ensures.key) (rw (c.step-key.ensures.key, c.step-key.ensures.next) at c.still_changed-self-inside.ensures)

pub returns-clause-world : goal.returns-clause-world
returns-clause-world c =
    let w = c.self.inside in
    let none : w.down.items ≡ [] = nothing_there w.down.items c.is_empty.result c.is_empty.ensures c.if-not-is_empty.false in
    let empty : w.up.items ≡ [] = nothing_there w.up.items c.is_empty-else-not-is_empty.result c.is_empty-else-not-is_empty.ensures c.if-not-is_empty-2.false in
    subst (λ (x : Scene). scene w.odt c.step-key.new.self c.send.new.down.items w.up.items (record { count = w.lost; hurt = c.still_changed-self-inside.result }) ≡ happens x Quiet) c.self.view_is
    (silent_world w.odt w.core w.down.items w.up.items (record { count = w.lost; hurt = w.changed }) _ _ _ none empty c.step-key.ensures.next
    (c.send.ensures ∙ ap option_to_list c.step-key.ensures.key) (rw (c.step-key.ensures.key, c.step-key.ensures.next) at c.still_changed-self-inside.ensures))
