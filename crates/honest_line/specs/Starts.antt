-- What a running program has to do with the key `G`, and with what the host says of it.
use Rattle.std.specs.Prelude.{◌≡◌, ℕ, true, List, Contains}
use Rattle.odt_machine.specs.Machine.{Machine}
use Rattle.odt_machine.specs.Laws.{is_running}
use Rattle.host_core.specs.declared.phase.End.TheVariants.{Started}
use Rattle.host_core.specs.declared.phase.Phase.TheVariants.{Ended}
use Rattle.host_core.specs.Console.{go}
use Rattle.host_core.specs.Core.{Core}
use Rattle.host_devices.specs.declared.item.Item.{Item}
use Rattle.host_devices.specs.Dialogue.{keys_of}
use Rattle.honest_line.specs.Honest.{IsHonest}
use Rattle.honest_line.specs.Trust.{MayBegin}

-- the machine runs a program only where `G` was among the keys that were sent
abbrev pub RunsByGo : Machine → List ℕ → Type 0
RunsByGo machine keys = is_running machine.mode ≡ true → Contains keys go

-- where the host ended with `Started`, the machine runs a program
abbrev pub StartedRuns : Core → Machine → Type 0
StartedRuns core machine = core.phase ≡ Ended Started → is_running machine.mode ≡ true

-- no program runs but by `G`, and `Started` means that one runs
pub record IsStartTrue (core : Core) (machine : Machine) (keys : List ℕ) : Type 0 where
  pub by_go : RunsByGo machine keys
  pub runs : StartedRuns core machine

-- so it is over every machine and honest line, for a host that went from one core to another while these items were sent and heard
abbrev pub TellsStart : Core → Core → List Item → Type 0
TellsStart old new items =
    (machine machine' : Machine) (lost : ℕ) → MayBegin old machine → IsHonest machine items lost machine' → IsStartTrue new machine' (keys_of items)
