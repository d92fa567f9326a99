-- the text is that of the blocks written so far
use Rattle.std.proofs.Common.{◌≡◌, map, take}
use Rattle.tape_values.specs.Tape.{text_of}
use Rattle.tape_values.specs.Tape.Piece.{block}
use Rattle.tape_blocks.proofs.writer.write_tape.Given as goal

abbrev pub invariant-loop-block : goal.invariant-loop-block
invariant-loop-block l = l.text.items ≡ text_of (map block (take l.block-index l.block-items))
