-- The hosts of a test of a bus, each with what was said (this project's own).
use Rattle.std.specs.Prelude.{◌≡◌, ℕ, ◌+◌, ◌≤◌, false, List, [], ◌∷◌, length, vec_capacity, Option, Some, None, ⊤}
use Rattle.host_core.specs.Core.{Core, begun as begun_load, ended as load_ended}
use Rattle.host_core.specs.Host.{IsHost}
use Rattle.host_devices.specs.declared.item.Item.{Item}
use Rattle.host_devices.specs.declared.item.Kept.{Kept}
use Rattle.engine.specs.Session.{session_told}
use Rattle.engine.specs.Stopping.{TellsEnd}
use Rattle.engine.specs.declared.stop.Stop.TheVariants.{Ended}
use Rattle.host_core.specs.declared.phase.End.TheVariants.{Loaded}
use Rattle.load_engine.specs.Driving.{LoadSession, LoadStop, driving}
use Rattle.looking_engine.specs.Inquired.{Inquired, inquiry}
use Rattle.looking_engine.specs.Stopping.{LookStop, TellsEnd as TellsLookEnd}
use Rattle.reading_core.specs.Reader.{Reader, begun, ended}
use Rattle.tape_image.specs.Plan.{PlanValue}
use Rattle.machine_probe.specs.PuttingBack.{IsDeposit, IsPlanOfWord}
use Rattle.machine_probe.specs.Runs.{OnLine}
use Rattle.request_values.specs.Change.{Change}
use Rattle.machine_probe.specs.declared.putting_back.Deposit.{Deposit}
use Rattle.memory_core.specs.declared.stage.Borrowed.{Borrowed}
use Rattle.machine_memory.specs.declared.bus_steps.LookRoom.{LookRoom}
use Rattle.machine_memory.specs.declared.course.Place.{Place}
use Rattle.machine_memory.specs.declared.course.Place.TheVariants.{Looking, Marking, PuttingBack}
use Rattle.machine_memory.specs.declared.memory_options.MemoryOptions.{MemoryOptions}
use Rattle.machine_memory.specs.Bus.{neighbours, number_at}
use Rattle.machine_memory.specs.BusCourse.{behind_look, behind_mark, behind_put_back, behind_second_look, stopped_load}
use Rattle.machine_memory.specs.Course.{Standing}
use Rattle.machine_memory.specs.Options.{probe_options}
use Rattle.machine_memory.specs.Turns.{most_turns}

-- a loading host was led that deposits this number in one word and starts nothing, and stopped
pub record IsDepositLed (options : MemoryOptions) (address number : ℕ) (stop : LoadStop) (parts : List (List Item)) : Type 0 where
  pub said : List Item
  pub part : parts ≡ said ∷ []
  pub plan : PlanValue
  pub plan_is : IsPlanOfWord address number plan
  pub host : IsHost (begun_load plan 0 false options.patience)
  pub last : Core
  pub kept : List Kept
  pub session : LoadSession most_turns (driving (begun_load plan 0 false options.patience) last (Some stop)) (session_told (Some []) (Some [])) (session_told (Some said) (Some kept))
  pub end : TellsEnd stop (load_ended last.phase)

-- a reading host was led over the words from one on that are one address line from another, and stopped
pub record IsLookLed (options : MemoryOptions) (at first : ℕ) (last : Reader) (stop : LookStop) (parts : List (List Item)) : Type 0 where
  pub said : List Item
  pub part : parts ≡ said ∷ []
  pub inquired : Inquired most_turns (inquiry (begun (neighbours at first) [] options.patience) last (Some stop)) (Some []) (Some said)
  pub end : TellsLookEnd stop (ended last.phase)

-- the number at a place was deposited
pub record IsMarkStep (options : MemoryOptions) (word : Borrowed) (place : ℕ) (before after : Standing) (parts : List (List Item)) : Type 0 where
  pub stop : LoadStop
  pub deposit_led : IsDepositLed options word.address (number_at place word.old) stop parts
  pub after_is : after ≡ behind_mark before word place stop

-- the old number was
pub record IsPutBackStep (options : MemoryOptions) (word : Borrowed) (before after : Standing) (parts : List (List Item)) : Type 0 where
  pub stop : LoadStop
  pub deposit_led : IsDepositLed options word.address word.old stop parts
  pub after_is : after ≡ behind_put_back before word stop

-- the words around it were looked at
pub record IsLookStep (options : MemoryOptions) (word : Borrowed) (first : ℕ) (before after : Standing) (parts : List (List Item)) : Type 0 where
  pub last : Reader
  pub stop : LookStop
  pub look_led : IsLookLed options word.address first last stop parts
  pub after_is : after ≡ behind_look before word last stop

-- and again
pub record IsLookAgainStep (options : MemoryOptions) (word : Borrowed) (first : ℕ) (before after : Standing) (parts : List (List Item)) : Type 0 where
  pub last : Reader
  pub stop : LookStop
  pub look_led : IsLookLed options word.address first last stop parts
  pub after_is : after ≡ behind_second_look before word last stop

-- ---- want of memory

-- the host that gives a word its old number again is there
abbrev pub HasBack : MemoryOptions → Borrowed → Option Deposit → Type 0
HasBack options word (Some deposit) = IsDeposit (probe_options options word.address) word.old deposit
HasBack options word None = ⊥

-- wherever a word may be lent, it is
abbrev pub IsReady : MemoryOptions → Place → Option Deposit → Type 0
IsReady options (Marking word place) back = HasBack options word back
IsReady options (Looking word first) back = HasBack options word back
IsReady options (PuttingBack word) back = HasBack options word back
IsReady options place back = ⊤

-- no word is lent there
abbrev pub IsUnlent : Place → Type 0
IsUnlent place = (options : MemoryOptions) (back : Option Deposit) → IsReady options place back

-- whatever was asked for, a host that was made to deposit a number in a word was led so
abbrev pub LeadsDeposit : Deposit → LoadStop → Option (List Item) → Option (List Item) → Type 0
LeadsDeposit deposit stop line line' =
    (options : MemoryOptions) (address number : ℕ) → IsDeposit (probe_options options address) number deposit →
    OnLine (IsDepositLed options address number stop) line line'

-- so a word got its old number again
abbrev pub PutsBackBy : Deposit → Borrowed → Change Standing → Option (List Item) → Option (List Item) → Type 0
PutsBackBy back word course line line' =
    (options : MemoryOptions) → HasBack options word (Some back) → OnLine (IsPutBackStep options word course.before course.after) line line'

-- a host that is to look at the words from one on around another, and room for all that read the mark
pub record IsLookRoom (options : MemoryOptions) (marked : List ℕ) (at first : ℕ) (room : LookRoom) : Type 0 where
  pub begins : room.core ≡ begun (neighbours at first) [] options.patience
  pub same : room.marked.items ≡ marked
  pub ample : length marked + length (neighbours at first) ≤ vec_capacity room.marked

-- memory was wanting, and the word has its old number again
abbrev pub IsRestored : MemoryOptions → Borrowed → List (List Item) → Type 0
IsRestored options word parts = IsDepositLed options word.address word.old (Ended Loaded) parts

-- or it may not have it, and is named
pub record IsNamedStep (options : MemoryOptions) (word : Borrowed) (before after : Standing) (parts : List (List Item)) : Type 0 where
  pub stop : LoadStop
  pub deposit_led : IsDepositLed options word.address word.old stop parts
  pub after_is : after ≡ stopped_load before word stop
