use Rattle.std.proofs.Common.{◌≡◌, ◌+◌, ◌*◌, ◌++◌, ◌∙◌, ap, arith}
use Rattle.std.specs.List.{flat_map}
use Rattle.tape_values.specs.Block.{framed, low_first}
use Rattle.tape_shelf.proofs.SavedBlocks.{part_is}
use Rattle.tape_shelf.proofs.saved_tape.push_saved_block.Goals as goal

pub returns-clause-items : goal.returns-clause-items
returns-clause-items c =
    let place : c.args.from + 2 * (256 * c.args.number) ≡ c.args.from + 2 * 256 * c.args.number = omega arith in
    let bytes = c.deref.ensures.0 ∙ (c.low_bytes_first-bytes.ensures.bytes ∙ ap (flat_map low_first) (part_is c.args.numbers.now (256 * c.args.number) c.min-behind.result c.min-behind.ensures)) in
    c.push_block.ensures.items
    ∙ (ap (λ front. front ++ framed (c.args.from + 2 * (256 * c.args.number)) c.deref.result.now) c.requires.empty
    ∙ (λ i. framed (place i) (bytes i)))
