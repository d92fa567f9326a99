-- How a world begins, and when it cannot.
use Rattle.std.specs.Prelude.{ℕ, ◌≡◌, ◌<◌, ◌≤◌, false, true, List, [], length}
use Rattle.odt_machine.specs.Machine.{Machine}
use Rattle.odt_machine.specs.Laws.{is_running}
use Rattle.host_core.specs.Core.{Core, IsFresh}
use Rattle.line_world.specs.declared.setup.Setup.{Setup}
use Rattle.line_world.specs.declared.setup.Setup.TheVariants.{TooMuchWaiting, Running, NotFresh}
use Rattle.line_world.specs.Wire.{most_waiting}
use Rattle.line_world.specs.Scene.{Scene}

-- the world at its opening: these answers wait, no key is under way, nothing is lost or changed
abbrev pub opened : Machine → Core → List ℕ → Scene
opened machine core waiting = record { machine = machine; core = core; down = []; up = waiting; lost = 0; changed = false }

-- a world may begin: no more characters wait than may, no program runs, and the host has done nothing yet
pub record IsAccepted (machine : Machine) (core : Core) (waiting : List ℕ) : Type 0 where
  pub few : length waiting ≤ most_waiting
  pub stopped : is_running machine.mode ≡ false
  pub fresh : IsFresh core

-- the first of the three that fails
abbrev pub IsRefusedSetup : Machine → Core → List ℕ → Setup → Type 0
IsRefusedSetup machine core waiting TooMuchWaiting = most_waiting < length waiting
IsRefusedSetup machine core waiting Running = (length waiting ≤ most_waiting) × (is_running machine.mode ≡ true)
IsRefusedSetup machine core waiting NotFresh = (length waiting ≤ most_waiting) × (is_running machine.mode ≡ false) × ¬ IsFresh core
