-- The bytes so far are those of the words so far.
use Rattle.std.proofs.Common.{◌≡◌, take}
use Rattle.std.specs.List.{flat_map}
use Rattle.tape_values.specs.Block.{low_first}
use Rattle.tape_values.proofs.block.low_bytes_first.Given as goal

abbrev pub invariant-loop-word : goal.invariant-loop-word
invariant-loop-word l = l.bytes.items ≡ flat_map low_first (take l.word-index l.words)
