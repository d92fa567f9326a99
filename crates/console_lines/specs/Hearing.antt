-- What is heard of a stream, where the stream tells its bytes; where it doesn't, these say counts and characters alone.
use Rattle.std.specs.Prelude.{◌≡◌, ◌≢◌, ◌⊎◌, ℕ, ◌<◌, ◌+◌, ◌%◌, Bool, true, false, if◌then◌else◌, List, [], ◌∷◌, ◌++◌, length, All}
use Rattle.std.specs.Prelude.{Option, Some, None, Result, Ok, Err, ⊤}
use Rattle.std.specs.IoError.{error_kind}
use Rattle.std.specs.declared.io.Error.{Error}
use Rattle.std.specs.declared.io.ErrorKind.{ErrorKind}
use Rattle.std.specs.declared.io.ErrorKind.TheVariants.{WouldBlock, TimedOut}
use Rattle.std.specs.Io.KnownBytes.{Consumes, Appends, Keeps, IsAtEnd}
use Rattle.host_core.specs.declared.heard.Heard.{Heard}
use Rattle.host_core.specs.declared.heard.Heard.TheVariants.{Got, Quiet}
use Rattle.host_devices.specs.declared.fault.LineFault.{LineFault}
use Rattle.host_devices.specs.declared.fault.LineFault.TheVariants.{Send, Closed, Receive, Noise}

-- the character that a byte carries: its lower seven bits, since some consoles send a parity bit above them
abbrev pub character_of : ℕ → ℕ
character_of byte = byte % 128

-- how many characters a hearing drops before the line is called noise: a console pads with a few, and a line that sends nothing else is
-- no console's (this project's choice)
abbrev pub most_dropped : ℕ
most_dropped = 4096

-- a byte that is dropped carries the character 000, with which consoles pad
abbrev pub IsPadding : ℕ → Type 0
IsPadding byte = character_of byte ≡ 0

-- what is heard is a character of seven bits and not 000, or silence
abbrev pub IsCharacter : Heard → Type 0
IsCharacter (Got c) = (c < 128) × (c ≢ 0)
IsCharacter Quiet = ⊤

-- a told count goes up by so many, and is still told
abbrev pub GoesUpBy : Option ℕ → Option ℕ → ℕ → Type 0
GoesUpBy None count' times = ⊤
GoesUpBy (Some count) None times = ⊥
GoesUpBy (Some count) (Some count') times = count' ≡ count + times

-- silence is heard where the time limit was met once, all else where it was not
abbrev pub silences_of : Result Heard LineFault → ℕ
silences_of (Ok Quiet) = 1
silences_of (Ok (Got c)) = 0
silences_of (Err fault) = 0

-- so many bytes were dropped, and then these were taken and no others
pub record DropsThenTakes (old new : Option (List ℕ)) (count : ℕ) (taken : List ℕ) : Type 0 where
  pub dropped : List ℕ
  pub padding : All IsPadding dropped
  pub counted : length dropped ≡ count
  pub consumed : Consumes old new (dropped ++ taken)

-- a hearing: fewer bytes were dropped than make noise; behind them either one more was taken, whose character is heard and is not 000,
-- or none
abbrev pub IsHearing : Option (List ℕ) → Option (List ℕ) → Heard → Type 0
IsHearing old new (Got c) =
    (count : ℕ) × (count < most_dropped) × (byte : ℕ) × (c ≡ character_of byte) × (c ≢ 0) × DropsThenTakes old new count (byte ∷ [])
IsHearing old new Quiet = (count : ℕ) × (count < most_dropped) × DropsThenTakes old new count []

-- how a hearing fails: the stream is at its end, or a read failed, behind fewer dropped bytes than make noise; or as many were dropped
abbrev pub IsHearingFault : Option (List ℕ) → Option (List ℕ) → LineFault → Type 0
IsHearingFault old new Closed = IsAtEnd new × ((count : ℕ) × (count < most_dropped) × DropsThenTakes old new count [])
IsHearingFault old new Receive = (count : ℕ) × (count < most_dropped) × DropsThenTakes old new count []
IsHearingFault old new Noise = DropsThenTakes old new most_dropped []
IsHearingFault old new other = ⊥

-- the kinds of error with which a read ends that met its time limit
abbrev pub ends_waiting : ErrorKind → Bool
ends_waiting WouldBlock = true
ends_waiting TimedOut = true
ends_waiting kind = false

-- a read meets the time limit where it ends with one of these
abbrev pub limits_of : Result ℕ Error → ℕ
limits_of (Ok count) = 0
limits_of (Err error) = if ends_waiting (error_kind error) then 1 else 0

-- a receipt meets the time limit where it gives nothing
abbrev pub limits_met : Result (Option ℕ) LineFault → ℕ
limits_met (Ok None) = 1
limits_met (Ok (Some byte)) = 0
limits_met (Err fault) = 0

-- what one receipt takes: the byte that it gives, or nothing
abbrev pub IsReceipt : Option (List ℕ) → Option (List ℕ) → Option ℕ → Type 0
IsReceipt old new (Some byte) = Consumes old new (byte ∷ [])
IsReceipt old new None = Consumes old new []

-- how a receipt fails: the stream is at its end, or a read failed, and nothing was taken
abbrev pub IsReceiptFault : Option (List ℕ) → Option (List ℕ) → LineFault → Type 0
IsReceiptFault old new Closed = IsAtEnd new × Consumes old new []
IsReceiptFault old new Receive = Consumes old new []
IsReceiptFault old new other = ⊥

-- how sending fails: the key went out or it didn't, and nothing else did
abbrev pub IsSentInPart : Option (List ℕ) → Option (List ℕ) → ℕ → LineFault → Type 0
IsSentInPart old new key Send = Keeps old new ⊎ Appends old new (key ∷ [])
IsSentInPart old new key other = ⊥
