-- The numbers of the blocks before this one, with which the text begins.
use Rattle.std.proofs.Common.{◌≡◌, ◌<◌, ◌*◌, length}
use Rattle.std.specs.Prelude.{All}
use Rattle.tape_shelf.proofs.FoundBlocks.{BeginsWith}
use Rattle.tape_shelf.proofs.found_part.blocks_in.Given as goal

abbrev pub invariant-loop-number : goal.invariant-loop-number
invariant-loop-number l = record {
  small : All (λ n. n < 65536) l.numbers.items;
  whole : length l.numbers.items ≡ 256 * l.number;
  begins : BeginsWith l.fn.range.from l.numbers.items l.fn.text;
}
