-- the length is that of the blocks counted so far
use Rattle.std.proofs.Common.{◌≡◌, take}
use Rattle.tape_values.specs.Tape.{written_length}
use Rattle.tape_values.proofs.tape.Tape.written_length.Given as goal

abbrev pub invariant-loop-block : goal.invariant-loop-block
invariant-loop-block l = l.length ≡ written_length (take l.block-index l.block-items)
