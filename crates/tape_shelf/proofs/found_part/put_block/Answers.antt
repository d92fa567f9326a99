use Rattle.std.proofs.Common.{◌∙◌, length, ap, arith, length-append}
use Rattle.std.specs.Cmp.Lexicographic.{other_text, same_text}
use Rattle.tape_values.specs.Block.{data_block}
use Rattle.tape_shelf.specs.SavedTape.{saved_block}
use Rattle.tape_shelf.proofs.FoundBlocks.{block_made, complete_text, data_length, pairs}
use Rattle.tape_shelf.proofs.found_part.put_block.Goals as goal

pub block_text-text-requires-clause-below : goal.block_text-text-requires-clause-below
block_text-text-requires-clause-below c =
    let more = c.in_ok-put_words.ensures.more in
    omega (arith, ap length c.deref.ensures.value, ap length more.2, length-append c.args.numbers.now.items more.0, pairs more.0 _ more.1 (data_length c.args.block.now c.requires.length), c.requires.whole, c.requires.below)

pub returns-then-eq-clause-more : goal.returns-then-eq-clause-more
returns-then-eq-clause-more c _ =
    let more = c.in_ok-put_words.ensures.more in
    let whole = pairs more.0 _ more.1 (data_length c.args.block.now c.requires.length) in
    let text = c.deref-2.ensures.0 ∙ (c.block_text-text.ensures ∙ ap (λ list. data_block (saved_block c.args.from list c.args.number)) c.deref.ensures.value) in (
      more.0,
      block_made c.args.from c.args.numbers.now.items more.0 c.put_words.new.words.items c.args.block.now c.deref-2.result.now c.args.number c.requires.whole whole more.2 text
          (same_text _ _ c.if-eq.ensures),
      more.2,
    )

pub returns-clause-none : goal.returns-clause-none
returns-clause-none c _ complete =
    let more = c.in_ok-put_words.ensures.more in
    let whole = pairs more.0 _ more.1 (data_length c.args.block.now c.requires.length) in
    let text = c.deref-2.ensures.0 ∙ (c.block_text-text.ensures ∙ ap (λ list. data_block (saved_block c.args.from list c.args.number)) c.deref.ensures.value) in
    other_text _ _ c.if-eq.ensures
    (complete_text c.args.from c.args.numbers.now.items more.0 c.put_words.new.words.items c.args.block.now c.deref-2.result.now c.args.number c.requires.whole whole more.2 more.1 text complete)
