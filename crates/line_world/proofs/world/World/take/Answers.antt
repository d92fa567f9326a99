use Rattle.std.proofs.Common.{◌≡◌, ◌+◌, ◌≤◌, ◌∙◌, ap, ◌++◌, length}
use Rattle.odt_machine.specs.KeyTable.{take_of}
use Rattle.line_world.proofs.Fields.{taken_fields, answer_fits, from_ok}
use Rattle.line_world.proofs.world.World.take.Goals as goal

pub invariant_of-self-2 : goal.invariant_of-self-2
invariant_of-self-2 c =
    let w = c.self.inside in
    let answer : c.as_slice.result.now ≡ (take_of w.odt c.in-Some.key).answer = c.as_slice.ensures.value ∙ c.take-answer.ensures.answer in
    let room : length w.up.items + length c.as_slice.result.now ≤ 32 = rw answer (answer_fits w.odt w.core w.down.items w.up.items (record { count = w.lost; hurt = w.changed }) c.in-Some.key c.self.invariant c.in-Some.ensures.value) in
    taken_fields w.odt w.core w.down.items w.up.items (record { count = w.lost; hurt = w.changed }) c.in-Some.key _ _ _ c.self.invariant c.in-Some.ensures.value c.in-Some.ensures.items c.take-answer.ensures.machine
    (from_ok c.try_extend_from_slice.result (c.try_extend_from_slice.ensures.variant.1 room) c.try_extend_from_slice.ensures.ok ∙ ap (λ x. w.up.items ++ x) answer)
