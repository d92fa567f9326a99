use Rattle.std.proofs.Common.{◌≡◌, ◌++◌, List, ap, ◌∙◌, sym, map, take, length, vec_len}
use Rattle.std.proofs.lemmas.List.{take_all}
use Rattle.tape_values.specs.Block.{BlockValue, block_at, framed, transfer_block}
use Rattle.tape_values.specs.Tape.{text_of}
use Rattle.tape_values.specs.Tape.Piece.{block}
use Rattle.tape_values.proofs.Plain.{length-plain_text}
use Rattle.tape_blocks.proofs.Written.{read_again, text_of-push}
use Rattle.tape_blocks.proofs.writer.write_tape.Goals as goal

pub loop-block-preserved : goal.loop-block-preserved
loop-block-preserved c =
    let b : BlockValue = c.block-item.result in
    let same : block_at c.block.inside.address c.deref.result.now ≡ b =
    ap (block_at c.block.inside.address) c.deref.ensures.value ∙ c.block.view_is in
    c.in_ok-write_block.ensures
    ∙ ap (λ t. t ++ framed c.block.inside.address c.deref.result.now) c.loop-block.invariant
    ∙ ap (λ v. text_of (map block (take c.loop-block.block-index c.blocks-block-items.result.now)) ++ framed v.address v.bytes) same
    ∙ sym (text_of-push c.blocks-block-items.result.now c.loop-block.block-index b c.loop-block-test.true c.block-item.is)

pub returns-clause-plain : goal.returns-clause-plain
returns-clause-plain c =
    let blocks : List BlockValue = c.blocks-block-items.result.now in
    let all : take c.loop-block.block-index blocks ≡ blocks = take_all c.loop-block.block-index blocks c.loop-block-test.false in
    c.in_ok-write_block-2.ensures
    ∙ ap (λ t. t ++ transfer_block c.start.result) (c.loop-block.invariant ∙ ap (λ bs. text_of (map block bs)) (all ∙ c.blocks-block-items.ensures.value))
    ∙ ap (λ s. text_of (map block c.args.tape.now.blocks) ++ transfer_block s) c.start.ensures.value

pub returns-clause-fits : goal.returns-clause-fits
returns-clause-fits c =
    c.write_block-2.new.text.ok.0 ∙ ap length (returns-clause-plain c) ∙ length-plain_text c.args.tape.now

pub returns-clause-read_again : goal.returns-clause-read_again
returns-clause-read_again c = λ more.
    read_again c.args.tape.now c.write_block-2.new.text.items more (vec_len c.write_block-2.new.text) c.start.ensures.sound
    (returns-clause-plain c) c.write_block-2.new.text.ok.0
