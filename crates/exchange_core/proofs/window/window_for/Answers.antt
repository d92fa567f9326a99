use Rattle.std.proofs.Common.{◌+◌, ◌≤◌, ℕ, List, Option, length, arith, sym, subst}
use Rattle.tape_image.specs.Word.{WordValue}
use Rattle.exchange_core.specs.Window.{IsFirstTogether}
use Rattle.exchange_core.proofs.Together.{IsHighest, highest_window, window_found, window_stays}
use Rattle.exchange_core.proofs.window.window_for.Goals as goal
use Rattle.exchange_core.proofs.window.window_for.Goals.{then-number-first, else-number-first}

-- the first word from which on all are together, up to the one that was just seen
together : (c : goal.Joined-number-first) → IsFirstTogether c.args.plan.now.words c.args.from c.first_together-first.result (c.loop-number.number + 1)
together c =
    let P : List WordValue → Type 0 = λ words. IsFirstTogether words c.args.from c.first_together-first.result (c.loop-number.number + 1) in
    subst P c.words-words.ensures.value c.first_together-first.ensures

pub loop-number-preserved : goal.loop-number-preserved
loop-number-preserved c =
    let P : Option ℕ → Type 0 = λ window. IsHighest c.args.plan.now.words c.args.from c.args.size (c.loop-number.number + 1) window in
    let below : c.loop-number.number + 1 ≤ length c.args.plan.now.words = subst (λ (words : List WordValue). c.loop-number.number + 1 ≤ length words) c.words-words.ensures.value (omega (arith, c.loop-number-test.true)) in
    record {
      together = together c;
      window = elim c.if-number-first.branch [
        | then-number-first w ↦ subst P (sym w.window-is) (window_found c.args.plan.now.words c.args.from c.args.size c.first_together-first.result (c.loop-number.number + 1) below (together c) w.if-number-first.true c.requires.some)
        | else-number-first w ↦ subst P (sym w.window-is) (window_stays c.args.plan.now.words c.args.from c.args.size c.first_together-first.result c.loop-number.number c.loop-number.window (together c) w.if-number-first.false c.loop-number.invariant.window)
      ];
    }

pub returns-clause-window : goal.returns-clause-window
returns-clause-window c = c.loop-number.invariant.window.is

pub returns-clause-highest : goal.returns-clause-highest
returns-clause-highest c = λ i is.
    let all : length c.args.plan.now.words ≤ c.loop-number.number = subst (λ (words : List WordValue). length words ≤ c.loop-number.number) c.words-words.ensures.value c.loop-number-test.false in
    highest_window c.args.plan.now.words c.args.from c.args.size c.loop-number.number c.loop-number.window i all c.loop-number.invariant.window is
