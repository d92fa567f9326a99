use Rattle.request_values.specs.Change.{◌⇒◌}
use Rattle.std.proofs.Common.{rules, ◌≡◌, ◌++◌, None, List, sym, subst, ap, ◌∙◌}
use Rattle.std.specs.Prelude.{slice_get, OnOk, OnErr}
use Rattle.line_world.specs.World.{happens}
use Rattle.byte_io.specs.Output.{WritesPrefix}
use Rattle.tape_commands.specs.KeyLines.{Answered, Gathers, Notes, key_text}
use Rattle.tape_commands.proofs.KeyTexts.{none_noted}
use Rattle.tape_commands.proofs.Dialogues.{none_answered, answered_next}
use Rattle.tape_commands.proofs.dialogue.turn.Goals as goal

pub returns-in_default-clause-ok : goal.returns-in_default-clause-ok
returns-in_default-clause-ok g c gathered gathers =
    let none : slice_get c.args.world.now.down 0 ≡ None = search rules in
    subst (λ next. Notes gathered next c.args.under_way.now (g.W.Write.contents c.args.out.now ⇒ g.W.Write.contents c.args.out.now))
    (sym (none_answered c.args.world.now none)) (none_noted gathered c.args.under_way.now (g.W.Write.contents c.args.out.now) gathers)

pub returns-in-Some-get-clause-ok : goal.returns-in-Some-get-clause-ok
returns-in-Some-get-clause-ok g c =
    subst (λ keys. OnOk c.note.result ((gathered : List Answered) → Gathers gathered c.args.under_way.now → Notes gathered keys c.note.new.self (g.W.Write.contents c.args.out.now ⇒ g.W.Write.contents c.note.new.out)))
    (sym
    (answered_next c.args.world.now c.apply.new.self c.in-Some.key c.up-waiting.result.now c.up.result.now c.in-Some-get.answer.now (search rules) (c.apply.ensures.world ∙ ap (happens c.args.world.now) c.next_event-event.ensures)
    c.up-waiting.ensures.value c.up.ensures.value c.in-Some-get.ensures.lookup.0.2))
    c.note.ensures.ok

pub returns-in-Some-get-clause-front : goal.returns-in-Some-get-clause-front
returns-in-Some-get-clause-front g c =
    subst (λ keys. OnErr c.note.result ((gathered : List Answered) → Gathers gathered c.args.under_way.now → (more : List Answered) → WritesPrefix (g.W.Write.contents c.args.out.now) (g.W.Write.contents c.note.new.out) (key_text (gathered ++ (keys ++ more)))))
    (sym
    (answered_next c.args.world.now c.apply.new.self c.in-Some.key c.up-waiting.result.now c.up.result.now c.in-Some-get.answer.now (search rules) (c.apply.ensures.world ∙ ap (happens c.args.world.now) c.next_event-event.ensures)
    c.up-waiting.ensures.value c.up.ensures.value c.in-Some-get.ensures.lookup.0.2))
    c.note.ensures.front
