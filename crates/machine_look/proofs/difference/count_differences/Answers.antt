use Rattle.std.proofs.Common.{◌∙◌, ◌+◌, ◌++◌, ℕ, List, ap, sym, arith, get_or, length, length-append, take}
use Rattle.std.proofs.lemmas.List.{take_all}
use Rattle.tape_image.specs.Word.{WordValue}
use Rattle.machine_look.specs.Differences.{difference, differences}
use Rattle.machine_look.proofs.Found.{next_difference, none_at_first}
use Rattle.machine_look.proofs.Shown.{at_most_one}
use Rattle.machine_look.proofs.difference.count_differences.Goals as goal

pub loop-place-init : goal.loop-place-init
loop-place-init c = (sym (ap length (none_at_first c.args.words.now c.args.numbers.now)), omega arith)

pub overflow_add-count : goal.overflow_add-count
overflow_add-count c =
    omega (arith, c.loop-place.invariant.1, c.loop-place-test.true, c.count_difference-count.ensures, at_most_one c.index-words-place.result (get_or c.args.numbers.now c.loop-place.place 0))

pub loop-place-preserved : goal.loop-place-preserved
loop-place-preserved c =
    let word : WordValue = c.index-words-place.result in
    let now = get_or c.args.numbers.now c.loop-place.place 0 in
    let before = differences c.args.words.now (take c.loop-place.place c.args.numbers.now) in
    let next = ap (λ (w : WordValue). length (before ++ difference w now)) c.index-words-place.is ∙ sym (ap length (next_difference c.args.words.now c.args.numbers.now c.loop-place.place word c.loop-place-test.true c.requires)) in (
      ap (λ (n : ℕ). c.loop-place.count + n) c.count_difference-count.ensures ∙ (ap (λ (n : ℕ). n + length (difference word now)) c.loop-place.invariant.0 ∙ (sym (length-append before (difference word now)) ∙ next)),
      omega (arith, c.loop-place.invariant.1, c.count_difference-count.ensures, at_most_one word now),
    )

pub returns : goal.returns
returns c =
    c.loop-place.invariant.0 ∙ ap (λ (l : List ℕ). length (differences c.args.words.now l)) (take_all c.loop-place.place c.args.numbers.now (omega (arith, c.loop-place-test.false)))
