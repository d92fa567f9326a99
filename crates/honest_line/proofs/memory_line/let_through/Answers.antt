use Rattle.std.proofs.Common.{◌≡◌, ◌+◌, ◌++◌, length, get_or, arith, ap, sym, refl, ◌∙◌, length-append, length-drop}
use Rattle.std.specs.List.{list_any}
use Rattle.honest_line.specs.LineTable.{is_answer, unless_lost}
use Rattle.honest_line.proofs.Lines.{through_now, kept_character, lost_character, one_at_most}
use Rattle.honest_line.proofs.memory_line.let_through.Goals as goal
use Rattle.honest_line.proofs.memory_line.let_through.Goals.{then-not-loses_answer, else-not-loses_answer}

pub loop-character-preserved : goal.loop-character-preserved
loop-character-preserved c =
    let i = c.loop-character.character-index in
    let number = c.loop-character.number in
    let answer = c.args.answer.now in
    let test = list_any (is_answer (number + 1)) c.args.losses.now in
    let now : c.if-not-loses_answer.waiting.items ≡ c.loop-character.waiting.items ++ unless_lost test (get_or answer i 0) = elim c.if-not-loses_answer.branch [
      | then-not-loses_answer w ↦ rw w.waiting-is (kept_character test (get_or answer i 0) c.loop-character.waiting.items _ (sym c.loses_answer.ensures ∙ w.if-not-loses_answer.true) w.push.ensures.items)
      | else-not-loses_answer w ↦ rw w.waiting-is (lost_character test (get_or answer i 0) c.loop-character.waiting.items _ (sym c.loses_answer.ensures ∙ w.if-not-loses_answer.false) refl)
    ] in
    record {
      number = omega arith;
      waiting = through_now c.args.waiting.now.items c.loop-character.waiting.items c.if-not-loses_answer.waiting.items c.args.losses.now c.args.before number answer i 0 c.loop-character-test.true c.loop-character.invariant.waiting now;
      room = omega (arith, ap length now, length-append c.loop-character.waiting.items (unless_lost test (get_or answer i 0)), one_at_most test (get_or answer i 0), length-drop i answer, length-drop (i + 1) answer);
    }
