use Rattle.std.proofs.Common.{nat_eq, ap, sym, ◌∙◌}
use Rattle.std.specs.Cmp.Lexicographic.{pointwise}
use Rattle.tape_commands.specs.KeyLines.{Answered}
use Rattle.tape_commands.proofs.KeyTexts.{holds_more, echo_noted, line_ends, line_fails, none_of_key}
use Rattle.tape_commands.proofs.key_line.KeyLine.note.Goals as goal

pub returns-then-eq-clause-ok : goal.returns-then-eq-clause-ok
returns-then-eq-clause-ok g c gathered gathers =
    let a : Answered = record { key = c.args.key; answer = c.args.answer.now } in
    echo_noted gathered a _ (g.W.Write.contents c.args.out.now)
    (holds_more gathered a c.args.self.now _ gathers.holds c.in_ok-show.ensures c.in_ok-show-2.ensures) gathers.echoes
    (ap (pointwise nat_eq c.args.answer.now) (sym c.as_slice.ensures) ∙ sym c.eq.ensures ∙ c.if-eq.true)

pub returns-clause-ok : goal.returns-clause-ok
returns-clause-ok g c =
    line_ends c.finish.result (record { key = c.args.key; answer = c.args.answer.now }) c.args.self.now (record { keys = c.show.new.text; answers = c.show-2.new.text }) c.finish.new.self
    (g.W.Write.contents c.args.out.now) (g.W.Write.contents c.finish.new.out) c.finish.ensures.ok c.in_ok-show.ensures c.in_ok-show-2.ensures
    (ap (pointwise nat_eq c.args.answer.now) (sym c.as_slice.ensures) ∙ sym c.eq.ensures ∙ c.if-eq.false)

pub returns-in_err-show-clause-front : goal.returns-in_err-show-clause-front
returns-in_err-show-clause-front g c = none_of_key _ (record { key = c.args.key; answer = c.args.answer.now }) c.args.self.now (g.W.Write.contents c.args.out.now)

pub returns-in_err-show-2-clause-front : goal.returns-in_err-show-2-clause-front
returns-in_err-show-2-clause-front g c = none_of_key _ (record { key = c.args.key; answer = c.args.answer.now }) c.args.self.now (g.W.Write.contents c.args.out.now)

pub returns-clause-front : goal.returns-clause-front
returns-clause-front g c =
    line_fails c.finish.result (record { key = c.args.key; answer = c.args.answer.now }) c.args.self.now (record { keys = c.show.new.text; answers = c.show-2.new.text })
    (g.W.Write.contents c.args.out.now) (g.W.Write.contents c.finish.new.out) c.finish.ensures.front c.in_ok-show.ensures c.in_ok-show-2.ensures
    (ap (pointwise nat_eq c.args.answer.now) (sym c.as_slice.ensures) ∙ sym c.eq.ensures ∙ c.if-eq.false)
