-- Which lists of blocks make no tape, and why.
use Rattle.std.specs.Prelude.{◌≡◌, ℕ, ◌+◌, ◌<◌, List, length, All, take, slice_get, IsSomeAnd}
use Rattle.tape_values.specs.Block.{BlockValue, IsBlock, top}
use Rattle.tape_values.specs.Tape.{tape_limit, written_length}
use Rattle.tape_values.specs.declared.tape.BadTape.{BadTape}
use Rattle.tape_values.specs.declared.tape.BadTape.TheVariants.{EmptyBlock, BlockPastTop, TooMuch}

-- the blocks before place n may stand on a tape, and the block there is as P says
abbrev pub IsFirstAt : List BlockValue → ℕ → (BlockValue → Type 0) → Type 0
IsFirstAt blocks n P = All IsBlock (take n blocks) × IsSomeAnd (slice_get blocks n) P

-- why these blocks make no tape: the first bad block, and too much where none is bad
abbrev pub IsBadTape : List BlockValue → BadTape → Type 0
IsBadTape blocks (EmptyBlock n) = IsFirstAt blocks n (λ b. length b.bytes ≡ 0)
IsBadTape blocks (BlockPastTop n) = IsFirstAt blocks n (λ b. (0 < length b.bytes) × (top < b.address + length b.bytes))
IsBadTape blocks TooMuch = All IsBlock blocks × (tape_limit < written_length blocks)
