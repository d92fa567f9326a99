-- The bytes so far are those of the numbers so far.
use Rattle.std.proofs.Common.{◌≡◌, ◌*◌, take}
use Rattle.std.specs.List.{flat_map}
use Rattle.arrayvec.specs.ArrayVec.{array_vec_len}
use Rattle.tape_values.specs.Block.{low_first}
use Rattle.tape_shelf.proofs.saved_tape.low_bytes_first.Given as goal

abbrev pub invariant-loop-number : goal.invariant-loop-number
invariant-loop-number l = record {
  bytes : l.bytes.items ≡ flat_map low_first (take l.number-index l.numbers);
  many : array_vec_len l.bytes ≡ 2 * l.number-index;
}
