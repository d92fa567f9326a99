use Rattle.std.proofs.Common.{◌≡◌, ◌+◌, ◌*◌, ◌-◌, ◌/◌, ◌<◌, ◌≤◌, ◌∙◌, List, ℕ, length, take, drop, ap, subst, sym, arith, length-append}
use Rattle.std.specs.Prelude.{All}
use Rattle.std.proofs.lemmas.List.Elements.{All-nil}
use Rattle.tape_shelf.specs.FoundPart.{AreFoundIn, IsCompleteBlock}
use Rattle.tape_shelf.specs.SavedTape.{words_in}
use Rattle.tape_shelf.proofs.FoundBlocks.{IsOneMore, all_found, begins_with_none, next_block, no_more, none_behind}
use Rattle.tape_shelf.proofs.found_part.blocks_in.Goals.{else-loop-number-test, then-loop-number-test+in_ok-put_block+then-not-branch}
use Rattle.tape_shelf.proofs.found_part.blocks_in.Goals as goal

pub loop-number-init : goal.loop-number-init
loop-number-init c =
    let none = c.in_ok-numbers.ensures.items in record {
      small = subst (All (λ n. n < 65536)) (sym none) (All-nil (λ n. n < 65536));
      whole = ap length none;
      begins = begins_with_none c.args.range.from c.args.text.now c.in_ok-numbers.numbers.items none;
    }

pub loop-number-preserved : goal.loop-number-preserved
loop-number-preserved c =
    let inv = c.loop-number.invariant in
    let n = c.loop-number.number in
    let block : List ℕ = take (519 * n + 519 - 519 * n) (drop (519 * n) c.args.text.now) in
    let more : IsOneMore (c.args.range.from + 512 * n) c.loop-number.numbers.items block c.put_block.new.numbers.items =
    subst (λ f. IsOneMore (f + 512 * n) c.loop-number.numbers.items block c.put_block.new.numbers.items) c.from-from.ensures.value (c.in_ok-put_block.ensures.more c.if-not-branch.false) in
    let slice : 519 * n + 519 - 519 * n ≡ 519 = omega arith in
    record {
      small = c.in_ok-put_block.ensures.small;
      whole = omega (arith, inv.whole, more.1.whole, ap length more.2, length-append c.loop-number.numbers.items more.0);
      begins = next_block c.args.range.from c.args.text.now c.loop-number.numbers.items c.put_block.new.numbers.items block n inv.whole inv.begins (ap (λ k. take k (drop (519 * n) c.args.text.now)) slice) more;
    }

pub returns : goal.returns
returns c =
    let inv = c.loop-number.invariant in
    let n = c.loop-number.number in
    let items = c.loop-number.numbers.items in
    let range = c.args.range in
    let text = c.args.text.now in
    let block : List ℕ = take (519 * n + 519 - 519 * n) (drop (519 * n) text) in
    let slice : 519 * n + 519 - 519 * n ≡ 519 = omega arith in
    let few : n ≤ words_in range / 256 = omega (arith, c.loop-number.auto.number-end, c.words_of-words.ensures.words) in
    elim c.loop-number-test.branch [
      | else-loop-number-test w ↦
          subst (AreFoundIn range text) (sym (ap (λ v. v.items) w.numbers-is))
          (all_found range text items n inv.small inv.whole few inv.begins (no_more range text items n inv.whole (omega (arith, w.loop-number-test.false, c.words_of-words.ensures.words))))
      | then-loop-number-test+in_ok-put_block+then-not-branch w ↦
          subst (AreFoundIn range text) (sym (ap (λ v. v.items) w.numbers-is ∙ w.in_ok-put_block.ensures.kept w.if-not-branch.true))
          (all_found range text items n inv.small inv.whole few inv.begins
          (none_behind range text items block n inv.whole (ap (λ k. take k (drop (519 * n) text)) slice)
          (λ h. w.in_ok-put_block.ensures.none w.if-not-branch.true (subst (λ f. IsCompleteBlock (f + 512 * n) block) (sym c.from-from.ensures.value) h))))
    ]
