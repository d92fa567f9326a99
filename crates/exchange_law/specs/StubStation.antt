-- The machine with the stub in it, as a station.
use Rattle.std.specs.Prelude.{◌≡◌, ℕ, ◌<◌, false, List, [], ◌∷◌, ◌++◌, is_some, ⊤}
use Rattle.odt_machine.specs.Machine.{Machine as OdtMachine}
use Rattle.host_core.specs.declared.heard.Heard.TheVariants.{Got, Quiet}
use Rattle.host_devices.specs.declared.item.Item.{Item}
use Rattle.host_devices.specs.declared.item.Item.TheVariants.{Sent, Heard as Came}
use Rattle.exchange_core.specs.declared.stretch.Stretch.{Stretch}
use Rattle.exchange_core.specs.Stretch.{places}
use Rattle.exchange_law.specs.Station.{Station, Program, IsHaltText, Each, halted, running}
use Rattle.exchange_law.specs.Line.{Link as Line, Passes}
use Rattle.stub.specs.Filling.{Filling, begun}
use Rattle.stub.specs.Law.{IsStarted}
use Rattle.stub.specs.Seen.{Bench, Happening, Sends, Hears, Silent, Ran, Link, Shows, opened, held}

-- the station: `odt` is the machine as ODT left it when it started the stub
abbrev pub station_by : OdtMachine → Filling → List ℕ → Station
station_by odt f [] = halted odt f.memory
station_by odt f (a ∷ left) = running odt f.memory (a ∷ left) (is_some f.high)

abbrev pub station : OdtMachine → Filling → Station
station odt f = station_by odt f f.left

-- what ODT prints at the halt comes behind all that the stub sends
abbrev pub goodbye : List ℕ → List ℕ → List ℕ
goodbye [] farewell = farewell
goodbye (a ∷ left) farewell = []

-- the line at whose end that station stands
abbrev pub as_line : OdtMachine → List ℕ → Link → Line
as_line odt farewell x = record { machine = station odt x.machine; down = x.down; up = x.up ++ goodbye x.machine.left farewell; lost = x.lost }

-- what the host sends and hears, and that it heard nothing for its quiet time
abbrev pub items_of : List Happening → List Item
items_of [] = []
items_of (Sends c ∷ what) = Sent c ∷ items_of what
items_of (Hears c ∷ what) = Came (Got c) ∷ items_of what
items_of (Silent ∷ what) = Came Quiet ∷ items_of what
items_of (_ ∷ what) = items_of what

-- a character has seven bits
abbrev pub IsSeven : ℕ → Type 0
IsSeven c = c < 128

-- the host sends such characters alone
abbrev pub SendsSeven : List Happening → Type 0
SendsSeven [] = ⊤
SendsSeven (Sends c ∷ what) = IsSeven c × SendsSeven what
SendsSeven (_ ∷ what) = SendsSeven what

-- what happens between a host and a machine at a bench, and what ODT prints at the halt
pub record BenchRun : Type 0 where
  pub before : Bench
  pub what : List Happening
  pub behind : Bench
  pub farewell : List ℕ

-- it may happen: the host sends characters of seven bits alone, and such are under way to the machine
pub record MayRun (run : BenchRun) : Type 0 where
  pub farewell : IsHaltText run.farewell
  pub under_way : Each IsSeven (held run.before.machine.console ++ run.before.down)
  pub sends : SendsSeven run.what
  pub ran : Ran run.before run.what run.behind

-- what the host sends and hears passes over a line from here, at whose end the station stands, and that line ends as the machine's looks
pub record PassesAsAStation (program : Program) (odt : OdtMachine) (found : Line) (run : BenchRun) : Type 0 where
  pub link : Link
  pub passes : Passes program found (items_of run.what) (as_line odt run.farewell link)
  pub shows : Shows run.behind link

-- so it is of whatever happens between a host and the machine with the stub in it
abbrev pub StubsAreStations : Type 0
StubsAreStations =
    (program : Program) (place : ℕ) (stretches : List Stretch) (odt : OdtMachine) (run : BenchRun) →
    IsStarted place stretches run.before.machine → MayRun run → PassesAsAStation program odt (as_line odt run.farewell (opened stretches run.before)) run

-- at its start it is the station that ODT makes of a stub with these bytes: no character of the first has come
abbrev pub StubsBeginFresh : Type 0
StubsBeginFresh =
    (odt : OdtMachine) (memory : List ℕ) (stretches : List Stretch) (a : ℕ) (left : List ℕ) → places stretches ≡ a ∷ left →
    station odt (begun memory stretches) ≡ running odt memory (places stretches) false
