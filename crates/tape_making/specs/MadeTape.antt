-- The tape that is made of words (this project's own).
use Rattle.std.specs.Prelude.{◌≡◌, ◌⊎◌, ℕ, ◌+◌, ◌<◌, ◌≤◌, List, Option, Some, None, IsSome, length, slice_index, slice_index_or, All, AllPairs}
use Rattle.tape_values.specs.Block.{BlockValue}
use Rattle.tape_values.specs.Tape.{TapeValue}
use Rattle.tape_image.specs.Image.{byte_at, image_of}
use Rattle.tape_image.specs.Plan.{plan_of, plan_with, program_start}
use Rattle.tape_making.specs.Words.{HasRows}

-- the byte for an address, of a list that has one for each from 0 on, or none
abbrev pub byte_on : List (Option ℕ) → ℕ → Option ℕ
byte_on bytes a = slice_index_or bytes a None

-- the first address from another on that has a byte
pub record IsNextByte (bytes : List (Option ℕ)) (from first : ℕ) : Type 0 where
  pub behind : from ≤ first
  pub within : first < length bytes
  pub there : IsSome (byte_on bytes first)
  pub before : (a : ℕ) → from ≤ a → a < first → byte_on bytes a ≡ None

-- the most bytes of a block
abbrev pub block_bytes : ℕ
block_bytes = 512

-- the bytes from an address on, up to the first that is missing, or as many as a block has
pub record IsRun (bytes : List (Option ℕ)) (first : ℕ) (run : List ℕ) : Type 0 where
  pub each : (k : ℕ) → k < length run → byte_on bytes (first + k) ≡ Some (slice_index run k)
  pub within : first + length run ≤ length bytes
  pub short : length run ≤ block_bytes
  pub ends : length run < block_bytes → byte_on bytes (first + length run) ≡ None

-- a block has no more bytes than that
abbrev pub IsShort : BlockValue → Type 0
IsShort b = length b.bytes ≤ block_bytes

-- the first block ends before the second begins, or right there if it is full: so there are as few as hold the bytes
abbrev pub IsBefore : BlockValue → BlockValue → Type 0
IsBefore b c = (b.address + length b.bytes < c.address) ⊎ ((b.address + length b.bytes ≡ c.address) × (length b.bytes ≡ block_bytes))

-- the tape has these bytes and no others, in short blocks that rise, and this start
pub record IsTapeOf (byte_for : ℕ → Option ℕ) (start : ℕ) (tape : TapeValue) : Type 0 where
  pub bytes : (a : ℕ) → byte_at tape.blocks a ≡ byte_for a
  pub short : All IsShort tape.blocks
  pub rising : AllPairs IsBefore tape.blocks
  pub start_is : tape.start ≡ start

-- the tape has the words that a text says, each where it says, and no others; so its plan, which `check` lists, has these words
pub record IsTapeSaid (text : List ℕ) (start : ℕ) (tape : TapeValue) : Type 0 where
  pub rows : List BlockValue
  pub are : HasRows text rows
  pub is_tape : IsTapeOf (byte_at rows) start tape
  pub plan : plan_of tape ≡ plan_with (image_of rows) (program_start start)
