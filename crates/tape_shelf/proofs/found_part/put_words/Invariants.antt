-- The words so far stand behind those that were there, and have the bytes so far.
use Rattle.std.proofs.Common.{◌≡◌, ◌<◌, ◌*◌, ◌++◌, ℕ, List, take}
use Rattle.std.specs.List.{flat_map}
use Rattle.std.specs.Prelude.{All}
use Rattle.tape_values.specs.Block.{low_first}
use Rattle.tape_shelf.proofs.found_part.put_words.Given as goal

abbrev pub invariant-loop-word : goal.invariant-loop-word
invariant-loop-word l = record {
  small : All (λ n. n < 65536) l.words.items;
  more : (these : List ℕ) × (flat_map low_first these ≡ take (2 * l.word) l.fn.bytes) × (l.words.items ≡ l.fn.words.items ++ these);
}
