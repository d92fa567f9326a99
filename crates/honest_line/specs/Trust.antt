-- What may be believed of a host that heard an honest line.
use Rattle.std.specs.Prelude.{◌≡◌, ℕ, ◌+◌, ◌≤◌, true, false, List, [], ◌∷◌, ◌++◌, Contains}
use Rattle.odt_machine.specs.Machine.{Machine, IsMachine}
use Rattle.odt_machine.specs.Laws.{is_running}
use Rattle.host_core.specs.declared.heard.Heard.{Heard}
use Rattle.host_core.specs.Console.{go}
use Rattle.host_core.specs.Core.{Core, begun_by}
use Rattle.host_core.specs.Foreign.{foreign_count}
use Rattle.host_core.specs.Host.{IsHost}
use Rattle.host_core.specs.Laws.{led}
use Rattle.line_world.specs.Safe.{FirstStand, IsSafe}
use Rattle.line_world.specs.Promises.{HasCause, EndsAtGo}
use Rattle.host_devices.specs.Dialogue.{dialogue, keys_of}
use Rattle.host_devices.specs.declared.item.Item.{Item}
use Rattle.host_devices.specs.declared.item.Item.TheVariants.{Sent}
use Rattle.honest_line.specs.Honest.{IsHonest}

-- a life may begin over this machine: the host is at its beginning and has no mark, no program runs, and the words that count as verified are there and stand
pub record MayBegin (core : Core) (machine : Machine) : Type 0 where
  pub begun : core ≡ begun_by core.careful core.plan core.verified false core.patience
  pub console : IsMachine machine
  pub stopped : is_running machine.mode ≡ false
  pub verified : FirstStand core.plan.words core.verified machine.memory

-- what came of it: what counts as verified is true of memory and memory is safe; `G` is the last of the keys if it is one of them, and then the mark
-- is set; and no mishap and no end is without its losses
pub record IsTrusted (before : List ℕ) (core : Core) (now : List ℕ) (keys : List ℕ) (lost : ℕ) : Type 0 where
  pub safe : IsSafe before core now
  pub last : EndsAtGo keys
  pub marked : Contains keys go → core.going ≡ true
  pub spent : core.spent ≤ lost
  pub cause : HasCause core.phase now core.patience core.spent lost

-- a host that went from one core to another while these items were sent and heard may be trusted over every machine and honest line, and
-- so many losses more than the line had pay for its mishaps
abbrev pub IsTrustworthy : Core → Core → List Item → ℕ → Type 0
IsTrustworthy old new items more =
    (machine machine' : Machine) (lost : ℕ) → MayBegin old machine → IsHonest machine items lost machine' →
    IsTrusted machine.memory new machine'.memory (keys_of items) (lost + more)

-- a host that heard an honest line has heard no character that no loss explains
abbrev pub NothingForeignIsHeard : Type 0
NothingForeignIsHeard =
    (core : Core) (things : List Heard) (machine machine' : Machine) (lost : ℕ) → IsHost core → MayBegin core machine →
    IsHonest machine (dialogue core things) lost machine' → foreign_count core things ≡ 0

-- a host that heard an honest line may be trusted
abbrev pub DialoguesAreTrustworthy : Type 0
DialoguesAreTrustworthy = (core : Core) (things : List Heard) → IsHost core → IsTrustworthy core (led core things) (dialogue core things) 0

-- a host whose last key was never sent may be trusted as one over a line that lost this key
abbrev pub UnsaidAreTrustworthy : Type 0
UnsaidAreTrustworthy =
    (core : Core) (things : List Heard) (items : List Item) (key : ℕ) → IsHost core →
    dialogue core things ≡ items ++ Sent key ∷ [] → IsTrustworthy core (led core things) items 1
