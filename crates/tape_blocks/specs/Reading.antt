-- What reading an input has to answer, and the laws of it.
use Rattle.std.specs.Prelude.{◌≡◌, ℕ, ◌<◌, ◌≤◌, ◌^◌, List, [], ◌++◌, length, take, All, Result, Ok, Err, ⊤}
use Rattle.tape_values.specs.Block.{BlockValue}
use Rattle.tape_values.specs.Tape.{TapeValue, IsTape}
use Rattle.tape_blocks.specs.Refusal.{IsRefused}
use Rattle.tape_blocks.specs.declared.fault.ReadError.{ReadError}
use Rattle.tape_blocks.specs.declared.fault.ReadError.TheVariants.{Tape, Memory}

-- what an input says: a tape of so many bytes begins it, or it is refused. Want of memory is nothing that it says
abbrev pub IsReading : List ℕ → Result (TapeValue × ℕ) ReadError → Type 0
IsReading input (Ok (tape, k)) = (k ≤ length input) × IsTape (take k input) tape.blocks tape.start
IsReading input (Err (Tape fault)) = IsRefused input fault.at fault.why
IsReading input (Err Memory) = ⊥

-- the same for an answer that may also be want of memory
abbrev pub IsReadingUnlessMemory : List ℕ → Result (TapeValue × ℕ) ReadError → Type 0
IsReadingUnlessMemory input (Ok read) = IsReading input (Ok read)
IsReadingUnlessMemory input (Err (Tape fault)) = IsReading input (Err (Tape fault))
IsReadingUnlessMemory input (Err Memory) = ⊤

-- no tape begins another, and a text has one list of blocks and one start
abbrev pub OneTape : Type 0
OneTape =
    (text more : List ℕ) (blocks others : List BlockValue) (start other : ℕ)
    → IsTape text blocks start → IsTape (text ++ more) others other
    → (more ≡ []) × (blocks ≡ others) × (start ≡ other)

-- an input of bytes says one thing, and no second
abbrev pub OneReading : Type 0
OneReading =
    (input : List ℕ) → All (λ byte. byte < 2 ^ 8) input
    → (answer : Result (TapeValue × ℕ) ReadError) × IsReading input answer
    × ((other : Result (TapeValue × ℕ) ReadError) → IsReading input other → other ≡ answer)
