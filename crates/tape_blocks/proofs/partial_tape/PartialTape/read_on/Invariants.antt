-- what was read is the piece as far as it was used
use Rattle.std.proofs.Common.{◌≡◌, [], ◌≤◌, ◌-◌, ◌++◌, List, ℕ, length, take}
use Rattle.std.specs.Prelude.{All}
use Rattle.tape_blocks.specs.PartialTape.{ArePlacedBy, IsPart, IsReadBy}
use Rattle.tape_blocks.proofs.partial_tape.PartialTape.read_on.Given as goal

abbrev pub invariant-loop-used : goal.invariant-loop-used
invariant-loop-used l = record {
  within : l.used ≤ length l.piece;
  part : IsPart l.self;
  read : (fed : List ℕ) → IsReadBy l.initial.self fed → IsReadBy l.self (fed ++ take l.used l.piece);
  placed : (fed : List ℕ) → IsReadBy l.initial.self fed → ArePlacedBy l.initial.self fed → ArePlacedBy l.self (fed ++ take l.used l.piece);
  blank : l.initial.self.header.items ≡ [] → All (λ byte. byte ≡ 0) l.piece → l.self.header.items ≡ [];
}

abbrev pub decreases-loop-used : goal.decreases-loop-used
decreases-loop-used l = length l.piece - l.used
