-- Which input is no tape, at which place, and why: one longest front and one list of tests behind it.
use Rattle.std.specs.Prelude.{◌≡◌, ◌==◌, ℕ, ◌+◌, ◌-◌, ◌*◌, ◌%◌, ◌≤◌, Bool, nat_lt, nat_le, if◌then◌else◌}
use Rattle.std.specs.Prelude.{List, [], ◌∷◌, length, take, sum, slice_index, Option, Some, None}
use Rattle.tape_values.specs.Block.{BlockValue, top}
use Rattle.tape_values.specs.Tape.{Piece, text_of, tape_limit, IsFront, IsTape}
use Rattle.tape_blocks.specs.declared.fault.Why.{Why}
use Rattle.tape_blocks.specs.declared.fault.Why.TheVariants.{Stray, BadMark, BadCount, Cut, BadSum, PastTop, NoTransfer, TooLong}
use Rattle.tape_blocks.specs.declared.fault.Fault.{Fault}

-- the count that a block states
abbrev pub count_of : List ℕ → ℕ
count_of block = slice_index block 2 + 256 * slice_index block 3

-- the address that a block states
abbrev pub address_of : List ℕ → ℕ
address_of block = slice_index block 4 + 256 * slice_index block 5

-- a test of a block: how many of its bytes it needs, whether it passes, and the fault where it does not
pub record Test : Type 0 where
  pub needs : ℕ
  pub passes : Bool
  pub fault : Fault

-- the fault at this place of the input, for this reason
abbrev pub fault_at : ℕ → Why → Fault
fault_at n w = record { at = n; why = w }

-- the tests of the block at place s, in the order of reading (the manual's rules; past the top is this project's)
abbrev pub tests_of : ℕ → List ℕ → List Test
tests_of s block =
    record { needs = 1; passes = slice_index block 0 == 1; fault = fault_at s Stray }
    ∷ record { needs = 2; passes = slice_index block 1 == 0; fault = fault_at (s + 1) BadMark }
    ∷ record { needs = 4; passes = nat_le 6 (count_of block); fault = fault_at (s + 2) BadCount }
    ∷ record { needs = count_of block + 1; passes = sum (take (count_of block + 1) block) % 256 == 0; fault = fault_at s BadSum }
    ∷ record { needs = count_of block + 1; passes = nat_le (address_of block + (count_of block - 6)) top; fault = fault_at (s + 4) PastTop }
    ∷ []

-- the fault of the first test that needs a byte past those that are there, or fails
abbrev pub first_fault : ℕ → Fault → List Test → Option Fault
first_fault there missing [] = None
first_fault there missing (t ∷ tests) =
    if nat_lt there t.needs then Some missing
    else (if t.passes then first_fault there missing tests else Some t.fault)

-- what a missing byte means, for a block at place s: the tape is too long, or the input ends before or inside the block
abbrev pub missing_fault : List ℕ → ℕ → Fault
missing_fault input s =
    if nat_lt tape_limit (length input) then fault_at tape_limit TooLong
    else (if s == length input then fault_at s NoTransfer else fault_at s Cut)

-- no front of the text is longer
pub record IsLongestFront (text : List ℕ) (pieces : List Piece) (rest : List ℕ) : Type 0 where
  pub is_front : IsFront text pieces rest
  pub longest : (others : List Piece) (behind : List ℕ) → IsFront text others behind → length (text_of others) ≤ length (text_of pieces)

-- the input is refused: within the limit no tape begins it, and behind its longest front this is the first fault
pub record IsRefused (input : List ℕ) (at : ℕ) (why : Why) : Type 0 where
  pub no_tape : (k : ℕ) (blocks : List BlockValue) (start : ℕ) → IsTape (take k (take tape_limit input)) blocks start → ⊥
  pub pieces : List Piece
  pub rest : List ℕ
  pub front : IsLongestFront (take tape_limit input) pieces rest
  pub first :
      first_fault (length rest) (missing_fault input (length (text_of pieces))) (tests_of (length (text_of pieces)) rest)
      ≡ Some (fault_at at why)
