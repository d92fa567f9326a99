-- What may be believed of a reading host that heard an honest line.
use Rattle.std.specs.Prelude.{◌≡◌, ℕ, ◌+◌, ◌≤◌, false, List, [], ◌∷◌, ◌++◌}
use Rattle.odt_machine.specs.Machine.{Machine, IsMachine}
use Rattle.odt_machine.specs.Laws.{is_running}
use Rattle.host_core.specs.declared.heard.Heard.{Heard}
use Rattle.host_devices.specs.declared.item.Item.{Item}
use Rattle.host_devices.specs.declared.item.Item.TheVariants.{Sent, Heard as Came}
use Rattle.host_devices.specs.Dialogue.{said, keys_of}
use Rattle.honest_line.specs.Honest.{IsHonest}
use Rattle.reading_core.specs.Reader.{Reader, begun_in}
use Rattle.reading_core.specs.Invariant.{IsReader}
use Rattle.reading_core.specs.Laws.{led}
use Rattle.reading_core.specs.ReadingTable.{ask}
use Rattle.looking_law.specs.Harmless.{HoldsRead, OnlyLook, HasCause}

-- each heard thing, and right after it the key that it makes the host send
abbrev pub dialogue : Reader → List Heard → List Item
dialogue r [] = []
dialogue r (heard ∷ more) = Came heard ∷ (said (ask r heard).key ++ dialogue (ask r heard).next more)

-- a reading may begin over this machine: the host is at the beginning of a life, no program runs, and the numbers that
-- count as read are what memory holds
pub record MayLook (r : Reader) (machine : Machine) : Type 0 where
  pub begun : r ≡ begun_in r.manner r.addresses r.values r.patience
  pub console : IsMachine machine
  pub stopped : is_running machine.mode ≡ false
  pub read : HoldsRead machine.memory r

-- what came of it: memory is what it was, what was read is what it holds, only looking keys were typed, no mishap and
-- no end is without its losses, and nothing was heard that no loss explains
pub record IsTrueReading (before : List ℕ) (r : Reader) (now : List ℕ) (typed : List ℕ) (lost : ℕ) : Type 0 where
  pub same : now ≡ before
  pub read : HoldsRead now r
  pub looks : OnlyLook false typed
  pub spent : r.spent ≤ lost
  pub foreign : r.foreign ≡ 0
  pub cause : HasCause r.phase now r.patience lost

-- a host that went from one reader to another while these items were sent and heard may be believed over every machine
-- and honest line, and so many losses more than the line had pay for its mishaps
abbrev pub IsBelievable : Reader → Reader → List Item → ℕ → Type 0
IsBelievable old new items more =
    (machine machine' : Machine) (lost : ℕ) → MayLook old machine → IsHonest machine items lost machine' →
    IsTrueReading machine.memory new machine'.memory (keys_of items) (lost + more)

-- a reading host that heard an honest line may be believed
abbrev pub HonestReadingsAreTrue : Type 0
HonestReadingsAreTrue = (r : Reader) (things : List Heard) → IsReader r → IsBelievable r (led r things) (dialogue r things) 0

-- one that heard an honest line heard nothing that no loss explains
abbrev pub ReadingsHearNothingForeign : Type 0
ReadingsHearNothingForeign =
    (r : Reader) (things : List Heard) (machine machine' : Machine) (lost : ℕ) → IsReader r → MayLook r machine →
    IsHonest machine (dialogue r things) lost machine' → (led r things).foreign ≡ 0

-- one whose last key was never sent may be believed as one over a line that lost this key
abbrev pub UnsaidReadingsAreTrue : Type 0
UnsaidReadingsAreTrue =
    (r : Reader) (things : List Heard) (items : List Item) (key : ℕ) → IsReader r → dialogue r things ≡ items ++ Sent key ∷ [] →
    IsBelievable r (led r things) items 1

-- a host may begin over this machine: it is one, and runs no program
pub record IsReadyMachine (machine : Machine) : Type 0 where
  pub console : IsMachine machine
  pub stopped : is_running machine.mode ≡ false

-- behind a reading that heard an honest line the next host may begin
abbrev pub ReadingsLeaveItReady : Type 0
ReadingsLeaveItReady =
    (r : Reader) (things : List Heard) (machine machine' : Machine) (lost : ℕ) → IsReader r → MayLook r machine →
    IsHonest machine (dialogue r things) lost machine' → IsReadyMachine machine'
