-- From ODT's `G` on.
use Rattle.std.specs.Prelude.{◌≡◌, ℕ, false, List, [], ◌∷◌, ◌++◌, Option, Some, None}
use Rattle.odt_machine.specs.Machine.{Machine as OdtMachine, IsMachine}
use Rattle.odt_machine.specs.KeyTable.{after_key}
use Rattle.odt_machine.specs.Laws.{is_running}
use Rattle.odt_machine.specs.declared.mode.Mode.TheVariants.{Running}
use Rattle.processor.specs.Machine.{Machine, Runs}
use Rattle.exchange_core.specs.declared.stretch.Stretch.{Stretch}
use Rattle.exchange_core.specs.Stretch.{places}
use Rattle.exchange_law.specs.Station.{Station, Program, after_odt}
use Rattle.exchange_law.specs.Line.{Link as Line}
use Rattle.stub.specs.Decoder.{stub_at}
use Rattle.stub.specs.Law.{waiting}
use Rattle.stub.specs.Seen.{Bench, held}
use Rattle.exchange_law.specs.StubStation.{BenchRun, MayRun, PassesAsAStation}

-- the bytes of a stub's stretches; a stub without any halts at once, and counts as none
abbrev pub bytes_in : Option (List Stretch) → Option (List ℕ)
bytes_in None = None
bytes_in (Some []) = None
bytes_in (Some (stretch ∷ stretches)) = Some (places (stretch ∷ stretches))

-- which bytes a stub fills that stands in a memory at an address, where one stands there
abbrev pub program : Program
program memory address = bytes_in (stub_at memory address)

-- a key at ODT, and the stub with stretches that it is to start: where it stands, and its stretches
pub record StubStart : Type 0 where
  pub odt : OdtMachine
  pub key : ℕ
  pub place : ℕ
  pub stretch : Stretch
  pub stretches : List Stretch

-- the machine as the key leaves it
abbrev pub left_by : StubStart → OdtMachine
left_by start = after_key start.odt start.key

-- the key starts the program at the address where the stub stands
pub record StartsStub (start : StubStart) : Type 0 where
  pub console : IsMachine (left_by start)
  pub still : is_running start.odt.mode ≡ false
  pub goes : (left_by start).mode ≡ Running start.place
  pub found : stub_at (left_by start).memory start.place ≡ Some (start.stretch ∷ start.stretches)

-- how ODT's `G` leaves the processor: at that address, over memory as it is. The registers and the codes are whatever they are, and so is what the
-- receiver and the transmitter hold; the notes of what was fetched and what has left begin here
pub record IsStartedBy (odt : OdtMachine) (place : ℕ) (m : Machine) : Type 0 where
  pub memory : m.memory ≡ odt.memory
  pub pc : m.pc ≡ place
  pub running : m.state ≡ Runs
  pub fetched : m.console.fetched ≡ []
  pub gone : m.console.gone ≡ []

-- the line of a bench, with this station at its end: what the machine holds is under way
abbrev pub line_of : Station → Bench → Line
line_of station x =
    record { machine = station; down = held x.machine.console ++ x.down; up = x.up ++ waiting x.machine.console; lost = x.lost }

-- from the key on that starts a stub, whatever happens between a host and the machine: what the host sends and hears passes over a line at whose end
-- the station stands that ODT leaves at that key, and that line ends as the machine's looks
abbrev pub StartedStubsAreStations : Type 0
StartedStubsAreStations =
    (start : StubStart) (run : BenchRun) → StartsStub start → IsStartedBy (left_by start) start.place run.before.machine → MayRun run →
    PassesAsAStation program (left_by start) (line_of (after_odt program start.odt start.key) run.before) run
