use Rattle.std.proofs.Common.{sym, subst, ◌∙◌}
use Rattle.std.specs.Str.Iter.{chars_rest}
use Rattle.std.proofs.lemmas.Str.{IsUtf8-past_char}
use Rattle.endings.specs.FaultOutput.{IsSaidInPart, IsSaidWhole}
use Rattle.endings.proofs.Lines.{IsSaidBut, on_any_err, piece_said, piece_cut, all_said}
use Rattle.endings.proofs.Names.{shown_text, shown_text-char, shown_text-none, shown_name-some}
use Rattle.endings.proofs.printing.write_name.Goals as goal

pub loop-character-preserved : goal.loop-character-preserved
loop-character-preserved g c =
    let step = c.in-Some.ensures.steps.0 in
    let utf8 = c.loop-character.invariant.text in
    let at = g.E.FaultOutput.said in record {
      text = IsUtf8-past_char (chars_rest c.loop-character.character-iterator) (chars_rest c.next.new.self) c.in-Some.character utf8 step;
      so_far = piece_said _ _ _ _ _ _
          (subst (IsSaidBut (at c.args.err.now) (at c.loop-character.err) (shown_text c.args.name.now))
          (shown_text-char (chars_rest c.loop-character.character-iterator) (chars_rest c.next.new.self) c.in-Some.character utf8 step)
          c.loop-character.invariant.so_far)
          (subst (IsSaidWhole (at c.loop-character.err) (at c.say-in-loop-character.new.err))
          (c.as_bytes.ensures.value ∙ c.deref.ensures.0 ∙ c.shown_character-piece.ensures) c.in_ok-say.ensures.ok);
    }

pub returns-in_err-say-clause-err : goal.returns-in_err-say-clause-err
returns-in_err-say-clause-err g c =
    let step = c.in-Some.ensures.steps.0 in
    let utf8 = c.loop-character.invariant.text in
    let at = g.E.FaultOutput.said in
    on_any_err c.from_residual.result _
    (subst (IsSaidInPart (at c.args.err.now) (at c.say-in-loop-character.new.err))
    (sym (shown_name-some c.args.name.now c.is_empty.result c.is_empty.ensures c.if-is_empty.false))
    (piece_cut _ _ _ _ _ _
    (subst (IsSaidBut (at c.args.err.now) (at c.loop-character.err) (shown_text c.args.name.now))
    (shown_text-char (chars_rest c.loop-character.character-iterator) (chars_rest c.next.new.self) c.in-Some.character utf8 step)
    c.loop-character.invariant.so_far)
    (subst (IsSaidInPart (at c.loop-character.err) (at c.say-in-loop-character.new.err))
    (c.as_bytes.ensures.value ∙ c.deref.ensures.0 ∙ c.shown_character-piece.ensures) c.in_err-say.ensures.err)))

pub returns-clause-ok : goal.returns-clause-ok
returns-clause-ok g c =
    let at = g.E.FaultOutput.said in
    subst (IsSaidWhole (at c.args.err.now) (at c.loop-character.err))
    (sym (shown_name-some c.args.name.now c.is_empty.result c.is_empty.ensures c.if-is_empty.false))
    (all_said _ _ _
    (subst (IsSaidBut (at c.args.err.now) (at c.loop-character.err) (shown_text c.args.name.now))
    (shown_text-none (chars_rest c.loop-character.character-iterator) c.in-None.ensures.steps.0.0) c.loop-character.invariant.so_far))
