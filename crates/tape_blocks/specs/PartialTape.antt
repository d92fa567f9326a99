-- How far a tape has been read: relations between what a reader keeps and the list that it was fed.
use Rattle.std.specs.Prelude.{◌≡◌, ℕ, ◌+◌, ◌<◌, ◌≤◌, List, [], ◌++◌, length, take, Result, Ok, Err, ⊤}
use Rattle.tape_values.specs.Tape.{tape_limit}
use Rattle.tape_blocks.specs.Head.{IsSplit, IsWanting}
use Rattle.tape_blocks.specs.declared.fault.ReadError.{ReadError}
use Rattle.tape_blocks.specs.declared.fault.ReadError.TheVariants.{Tape, Memory}
use Rattle.tape_blocks.specs.declared.partial_tape.PartialTape.{PartialTape}
use Rattle.tape_blocks.specs.declared.partial_tape.Step.{Step}
use Rattle.tape_blocks.specs.declared.partial_tape.Step.TheVariants.{Took, Ended}
use Rattle.tape_blocks.specs.Standing.{IsReadTo, EndsTape, IsRefusedForGood}
use Rattle.tape_blocks.specs.Layout.{ArePlaced}

-- the bytes of the block under way that are there
abbrev pub part_of : PartialTape → List ℕ
part_of p = p.header.items ++ p.body.items

-- this list was read: its blocks, and the block under way
abbrev pub IsReadBy : PartialTape → List ℕ → Type 0
IsReadBy p fed = IsReadTo fed p.blocks.items p.place (part_of p)

-- the block under way is the beginning of one, and ends within the limit
pub record IsPart (p : PartialTape) : Type 0 where
  pub split : IsSplit p.header.items p.body.items
  pub wanting : IsWanting p.place (part_of p)
  pub within : p.place + length (part_of p) ≤ tape_limit

-- what a step over the bytes left came to
abbrev pub IsStep : PartialTape → List ℕ → PartialTape → Result Step ReadError → Type 0
IsStep old left new (Ok (Took n)) =
    (n ≤ length left) × IsPart new × ((fed : List ℕ) → IsReadBy old fed → IsReadBy new (fed ++ take n left))
IsStep old left new (Ok (Ended n start)) =
    (n ≤ length left) × ((fed : List ℕ) → IsReadBy old fed → EndsTape (fed ++ take n left) new.blocks.items new.place start)
IsStep old left new (Err (Tape fault)) = (fed : List ℕ) → IsReadBy old fed → IsRefusedForGood (fed ++ left) fault
IsStep old left new (Err Memory) = ⊤

-- a byte at least was taken
abbrev pub Advances : Result Step ReadError → Type 0
Advances (Ok (Took n)) = 0 < n
Advances (Ok (Ended n start)) = 0 < n
Advances (Err e) = ⊤

-- the tape goes on only behind the whole piece
abbrev pub TakesAll : List ℕ → Result Step ReadError → Type 0
TakesAll piece (Ok (Took n)) = n ≡ length piece
TakesAll piece (Ok (Ended n start)) = ⊤
TakesAll piece (Err e) = ⊤

-- no growth was refused, and no block is under way
abbrev pub TakesNoMemory : PartialTape → Result Step ReadError → Type 0
TakesNoMemory new (Ok step) = new.header.items ≡ []
TakesNoMemory new (Err (Tape fault)) = ⊤
TakesNoMemory new (Err Memory) = ⊥

-- each block that was read is at its place of this list
abbrev pub ArePlacedBy : PartialTape → List ℕ → Type 0
ArePlacedBy p fed = ArePlaced fed p.blocks.items p.places.items

-- and with the bytes that a step took they still are
abbrev pub PlacesOn : PartialTape → List ℕ → PartialTape → Result Step ReadError → Type 0
PlacesOn old left new (Ok (Took n)) = (fed : List ℕ) → IsReadBy old fed → ArePlacedBy old fed → ArePlacedBy new (fed ++ take n left)
PlacesOn old left new (Ok (Ended n start)) = (fed : List ℕ) → IsReadBy old fed → ArePlacedBy old fed → ArePlacedBy new (fed ++ take n left)
PlacesOn old left new (Err e) = ⊤
