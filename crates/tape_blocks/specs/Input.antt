-- What is taken of an input to read the tape that begins it, where the input tells its bytes; where it doesn't, these
-- definitions speak of lengths and answers alone.
use Rattle.std.specs.Prelude.{◌≡◌, ◌⊎◌, ℕ, ◌+◌, ◌≤◌, ◌++◌, List, Option, length, take, Result, Ok, Err, IfOk, ⊤}
use Rattle.std.specs.Io.KnownBytes.{Consumes, IsAtEnd}
use Rattle.tape_values.specs.Block.{BlockValue}
use Rattle.tape_values.specs.Tape.{TapeValue, IsTape, tape_limit}
use Rattle.tape_blocks.specs.Refusal.{IsRefused}
use Rattle.tape_blocks.specs.Layout.{IsLaidOut}
use Rattle.tape_blocks.specs.Standing.{IsRefusedForGood}
use Rattle.tape_blocks.specs.TapeReader.{IsForMore}
use Rattle.tape_blocks.specs.declared.fault.Fault.{Fault}
use Rattle.tape_blocks.specs.declared.fault.ReadError.{ReadError}
use Rattle.tape_blocks.specs.declared.fault.ReadError.TheVariants.{Tape, Memory}
use Rattle.tape_blocks.specs.declared.input.FromError.{FromError}
use Rattle.tape_blocks.specs.declared.layout.Layout.{Layout}
use Rattle.tape_blocks.specs.declared.input.FromError.TheVariants.{Tape as TapeOf, Memory as NoMemory, Io}

-- the most bytes that are taken of an input for a tape: one more than a tape may have, so that a longer one is seen
abbrev pub input_limit : ℕ
input_limit = tape_limit + 1

-- no byte behind a tape: every tape that begins with these bytes, or is begun by them, is as long as they are
abbrev pub IsNeeded : List ℕ → Type 0
IsNeeded taken =
    (more : List ℕ) (n : ℕ) (blocks : List BlockValue) (start : ℕ) → n ≤ length (taken ++ more)
    → IsTape (take n (taken ++ more)) blocks start → length taken ≤ n

-- what was answered for the bytes taken: they are the tape; they are refused, at the input's end or whatever follows;
-- a read failed where the tape goes on
abbrev pub IsAnswerTo : List ℕ → Option (List ℕ) → Result (TapeValue × ℕ) FromError → Type 0
IsAnswerTo taken after (Ok (tape, n)) = (length taken ≡ n) × IsTape taken tape.blocks tape.start
IsAnswerTo taken after (Err (TapeOf fault)) = IsRefused taken fault.at fault.why × (IsAtEnd after ⊎ IsRefusedForGood taken fault)
IsAnswerTo taken after (Err NoMemory) = ⊤
IsAnswerTo taken after (Err Io) = (fault : Fault) × IsRefused taken fault.at fault.why × IsForMore fault.why

-- reading a tape from an input: what was taken of it, and what was answered
pub record IsReadFrom (before after : Option (List ℕ)) (result : Result (TapeValue × ℕ) FromError) : Type 0 where
  pub taken : List ℕ
  pub consumed : Consumes before after taken
  pub within : length taken ≤ input_limit
  pub needed : IsNeeded taken
  pub answer : IsAnswerTo taken after result

-- the same of a tape, told with how many bytes it has alone
abbrev pub without_places : Result (TapeValue × Layout) FromError → Result (TapeValue × ℕ) FromError
without_places (Ok (tape, layout)) = Ok (tape, layout.size)
without_places (Err error) = Err error

-- .. and how the tape lies in what was taken
pub record IsReadWithLayout (before after : Option (List ℕ)) (result : Result (TapeValue × Layout) FromError) : Type 0 where
  pub reading : IsReadFrom before after (without_places result)
  pub laid : IfOk result (λ read. IsLaidOut reading.taken read.0 read.1)

-- the same error of an input
abbrev pub from_read_error : ReadError → FromError
from_read_error (Tape fault) = TapeOf fault
from_read_error Memory = NoMemory
