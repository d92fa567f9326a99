use Rattle.std.proofs.Common.{◌∙◌, ap}
use Rattle.std.specs.Prelude.{option_to_list}
use Rattle.line_world.proofs.Fields.{heard_fields}
use Rattle.line_world.proofs.world.World.hear.Goals as goal

pub invariant_of-self-2 : goal.invariant_of-self-2
invariant_of-self-2 c =
    let w = c.self.inside in
    heard_fields w.odt w.core w.down.items w.up.items (record { count = w.lost; hurt = w.changed }) c.in-Some.character _ _ _ _ c.self.invariant c.in-Some.ensures.value c.in-Some.ensures.items c.step-key.ensures.next
    (c.send.ensures ∙ ap option_to_list c.step-key.ensures.key) (rw (c.step-key.ensures.key, c.step-key.ensures.next) at c.still_changed-self-inside.ensures)
