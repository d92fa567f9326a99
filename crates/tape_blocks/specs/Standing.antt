-- Where a list of bytes stands as the beginning of a tape.
use Rattle.std.specs.Prelude.{◌≡◌, ℕ, List, ◌++◌, length, All}
use Rattle.tape_values.specs.Block.{BlockValue, HoldsBytes}
use Rattle.tape_values.specs.Tape.{Piece, text_of, blocks_of, IsFront, IsTape, IsSound}
use Rattle.tape_blocks.specs.Refusal.{IsRefused}
use Rattle.tape_blocks.specs.declared.fault.Fault.{Fault}

-- the text is pieces with these blocks up to this place, and then the rest
pub record IsReadTo (text : List ℕ) (blocks : List BlockValue) (place : ℕ) (rest : List ℕ) : Type 0 where
  pub pieces : List Piece
  pub front : IsFront text pieces rest
  pub all_used : blocks_of pieces ≡ blocks
  pub ends : length (text_of pieces) ≡ place
  pub each_byte : All HoldsBytes blocks

-- the text is a tape of these blocks and this start, and so long
pub record EndsTape (text : List ℕ) (blocks : List BlockValue) (used : ℕ) (start : ℕ) : Type 0 where
  pub length_is : length text ≡ used
  pub is_tape : IsTape text blocks start
  pub sound : IsSound (record { blocks = blocks; start = start })

-- the text is refused, whatever follows it
abbrev pub IsRefusedForGood : List ℕ → Fault → Type 0
IsRefusedForGood text fault = (more : List ℕ) → IsRefused (text ++ more) fault.at fault.why
