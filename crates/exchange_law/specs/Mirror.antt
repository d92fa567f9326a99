-- A station on which no stub runs is the machine that it has.
use Rattle.std.specs.Prelude.{◌≡◌, ℕ, ◌+◌, ◌≤◌, true, false, List, [], length, None}
use Rattle.odt_machine.specs.Laws.{is_running}
use Rattle.host_core.specs.declared.heard.Heard.{Heard}
use Rattle.host_core.specs.Core.{Core}
use Rattle.host_core.specs.Host.{IsHost}
use Rattle.line_world.specs.Wire.{Wire, most_waiting}
use Rattle.host_devices.specs.Dialogue.{dialogue}
use Rattle.honest_line.specs.Honest.{IsHonest}
use Rattle.honest_line.specs.Trust.{MayBegin}
use Rattle.exchange_law.specs.Line.{Link, Passes}
use Rattle.exchange_law.specs.Station.{Program, begins}

-- the same line, with the machine alone at its end, and so many losses
abbrev pub wire_at : Link → ℕ → Wire
wire_at x lost = record { machine = x.machine.odt; down = x.down; up = x.up; lost = lost }

-- no stub runs but one that has just been started, and no character is under way to it
pub record IsJustAMachine (program : Program) (x : Link) : Type 0 where
  pub stub : x.machine.stub ≡ begins program false x.machine.odt.memory x.machine.odt.mode
  pub quiet : is_running x.machine.odt.mode ≡ true → x.down ≡ []

-- a line to a station at which no stub runs and no key is under way
pub record IsAtOdt (x : Link) : Type 0 where
  pub no_stub : x.machine.stub ≡ None
  pub none_down : x.down ≡ []
  pub few : length x.up ≤ most_waiting

-- what a loading host that begins there says and hears is what it could say and hear over an honest line of the machine alone, with the same losses
abbrev pub StationsWithoutStubAreMachines : Type 0
StationsWithoutStubAreMachines =
    (program : Program) (core : Core) (things : List Heard) (x y : Link) (lost : ℕ) → IsHost core → MayBegin core x.machine.odt → IsAtOdt x →
    Passes program x (dialogue core things) y → y.lost ≡ x.lost + lost → IsHonest x.machine.odt (dialogue core things) lost y.machine.odt
