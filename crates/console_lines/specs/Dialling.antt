-- What is asked for a line to a console: of a network, or of a system with serial devices.
use Rattle.std.specs.Prelude.{◌⊎◌, ℕ, List, [], ◌∷◌, Option, Result, Ok, Err}
use Rattle.host_devices.specs.Told.{Gains}
use Rattle.host_devices.specs.declared.fault.LineFault.{LineFault}
use Rattle.host_devices.specs.declared.fault.LineFault.TheVariants.{Connect}

-- a name was dialled, or a serial device was opened, by its path; or the reads of what came of that were limited to a time, in milliseconds
pub data LineRequest : Type 0 where
  Dialled : List ℕ → LineRequest
  OpenedDevice : List ℕ → LineRequest
  Limited : ℕ → LineRequest

-- whom a line is to lead to, with a quiet time in milliseconds: whoever answers at a port's name, or the serial device at a path
pub data Call : Type 0 where
  ToPort : List ℕ → ℕ → Call
  ToDevice : List ℕ → ℕ → Call

-- what is asked first
abbrev pub asked_first : Call → List LineRequest
asked_first (ToPort name quiet_ms) = Dialled name ∷ []
asked_first (ToDevice path quiet_ms) = OpenedDevice path ∷ []

-- what a line that was reached was asked for: its name was dialled, or its device opened, once, and its time limit is the quiet time
abbrev pub asked_once : Call → List LineRequest
asked_once (ToPort name quiet_ms) = Dialled name ∷ Limited quiet_ms ∷ []
asked_once (ToDevice path quiet_ms) = OpenedDevice path ∷ Limited quiet_ms ∷ []

-- what was asked for a line that was not reached: where nobody answered no time limit was set
abbrev pub asked_until : Call → LineFault → List LineRequest
asked_until call Connect = asked_first call
asked_until call other = asked_once call

-- what was asked, by what came of it
abbrev pub asked_for : {L : Type 0} → Call → Result L LineFault → List LineRequest
asked_for call (Ok line) = asked_once call
asked_for call (Err fault) = asked_until call fault

-- what was asked, where it is not said why no line was reached
abbrev pub IsAskedInVain : Call → Option (List LineRequest) → Option (List LineRequest) → Type 0
IsAskedInVain call asked asked' = Gains asked asked' (asked_first call) ⊎ Gains asked asked' (asked_once call)
