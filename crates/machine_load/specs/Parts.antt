-- The parts of a life on its line: its stubs, where it brings some in, looks behind those that were in vain, and its host.
use Rattle.std.specs.Prelude.{◌≡◌, Bool, true, false, Option, Some, None}
use Rattle.host_core.specs.Core.{Core}
use Rattle.host_devices.specs.Devices.{Devices, LineTold, devices}
use Rattle.host_devices.specs.declared.item.Kept.{Kept}
use Rattle.engine.specs.Keeping.{IsKeptBy, KeeperCalls}
use Rattle.host_devices.specs.Turns.{most_turns}
use Rattle.load_engine.specs.Driving.{Driving, LoadStop as Stop, driving}
use Rattle.load_engine.specs.Driven.{IsDriven, turns_give}
use Rattle.stub_engine.specs.Brought.{AreAllStubs, stubs_give}
use Rattle.stub_engine.specs.Keeping.{IsKeptBy as StubsAreKeptBy}
use Rattle.stub_engine.specs.Parts.{Bringing, bringing}
use Rattle.stub_engine.specs.declared.typist.Typist.{Typist}
use Rattle.stub_engine.specs.Tallies.{begun as none_yet}
use Rattle.machine_load.specs.declared.load_end.LoadEnd.{LoadEnd}
use Rattle.machine_load.specs.declared.load_end.LoadEnd.TheVariants.{Driven, Unfinished, Stale}
use Rattle.machine_load.specs.declared.looks.Looks.{Looks}
use Rattle.machine_load.specs.declared.stubs.Stubs.{Stubs}
use Rattle.machine_load.specs.Looks.{AreLooks, behind_any_looks, held_up_by}
use Rattle.machine_load.specs.Stubs.{hindrance, host_behind, looks_again}

-- ---- the stubs

-- the host that types a life's stubs: as careful and as patient as its own
abbrev pub typist_for : Core → Typist
typist_for first = record { careful = first.careful; patience = first.patience }

-- the stubs of a life, where it brings some in, as their engine has them: behind its first words, typed by such hosts
abbrev pub stubs_of : Core → Option Stubs → Option Bringing
stubs_of first None = None
stubs_of first (Some stubs) = Some (bringing first.plan (typist_for first) (none_yet first.verified, stubs.tally) (Some stubs.stop))

-- stubs were brought in, where there were some; else nothing was said and nothing kept
abbrev pub AreBrought : Option Bringing → Devices → Devices → Type 0
AreBrought None before after = after ≡ before
AreBrought (Some stubs) before after = AreAllStubs stubs before after

-- what they made of a keeper
abbrev pub AreKept : {K : Type 0} → KeeperCalls K Kept → Option Bringing → K → K → Type 0
AreKept {K} calls None keeper keeper' = keeper' ≡ keeper
AreKept {K} calls (Some stubs) keeper keeper' = StubsAreKeptBy calls (stubs_give stubs) keeper keeper'

-- ---- the looks behind them

-- a life has looked at samples of the words that count as verified behind its stubs, those of the record and those of the stubs; nothing was kept
-- meanwhile
pub record HasLookedAgain (behind : Core) (again : Option Looks) (before after : Devices) : Type 0 where
  pub looks : Looks
  pub again_is : again ≡ Some looks
  pub looked : AreLooks behind false looks before.line after.line
  pub kept_same : after.kept ≡ before.kept

-- it did, or nothing was said and nothing kept
abbrev pub LooksAgain : Bool → Core → Option Looks → Devices → Devices → Type 0
LooksAgain true behind again before after = HasLookedAgain behind again before after
LooksAgain false behind again before after = (again ≡ None) × (after ≡ before)

-- why no host follows: the stubs hinder it, or the looks behind them
abbrev pub held_back : Option Stop → Option Looks → Option LoadEnd
held_back (Some stop) again = Some (Driven stop)
held_back None None = None
held_back None (Some looks) = held_up_by looks

-- ---- the host

-- the course that a life takes on its line: the host that it goes on with, its stubs, where it brings some in, its looks behind them, where it looks, the
-- host as it was in the end, and how the last of them stopped
pub record Course : Type 0 where
  pub first : Core
  pub stubs : Option Stubs
  pub again : Option Looks
  pub core : Core
  pub end : LoadEnd

-- how its host stopped, where it is the host that did
abbrev pub stop_of : LoadEnd → Option Stop
stop_of (Driven stop) = Some stop
stop_of (Unfinished stop) = None
stop_of (Stale address) = None

-- its host behind its stubs, and, where it begins, behind its looks
abbrev pub behind_stubs : Course → Core
behind_stubs course = host_behind course.first course.stubs

abbrev pub host_of : Course → Core
host_of course = behind_any_looks (behind_stubs course) course.again

-- its turns
abbrev pub turns_of : Course → Driving
turns_of course = driving (host_of course) course.core (stop_of course.end)

-- one thing where nothing held the host back, and another where something did
abbrev pub Unless : Option LoadEnd → (free : Type 0) → (held : LoadEnd → Type 0) → Type 0
Unless None free held = free
Unless (Some why) free held = held why

-- a host that was held back has done nothing: nothing was said and nothing kept
pub record IsHeldBack (course : Course) (before after : Devices) (why : LoadEnd) : Type 0 where
  pub core : course.core ≡ host_of course
  pub end_is : course.end ≡ why
  pub devices_same : after ≡ before

-- the host was driven, until it stopped
pub record IsDrivenOut (course : Course) (before after : Devices) : Type 0 where
  pub stop : Stop
  pub end_is : course.end ≡ Driven stop
  pub driven : IsDriven most_turns (driving (host_of course) course.core (Some stop)) before after

-- it was, unless something held it back
abbrev pub IsDrivenUnless : Option LoadEnd → Course → Devices → Devices → Type 0
IsDrivenUnless why course before after = Unless why (IsDrivenOut course before after) (IsHeldBack course before after)

-- its stubs may hold it back, or its looks
abbrev pub what_holds : Course → Option LoadEnd
what_holds course = held_back (hindrance course.stubs) course.again

abbrev pub IsDrivenBehind : Course → Devices → Devices → Type 0
IsDrivenBehind course before after = IsDrivenUnless (what_holds course) course before after

-- what it made of a keeper, where it was driven
abbrev pub IsKeptBehind : {K : Type 0} → KeeperCalls K Kept → Course → K → K → Type 0
IsKeptBehind {K} calls course keeper keeper' =
    Unless (what_holds course) (IsKeptBy calls (turns_give (turns_of course)) keeper keeper') (λ why. keeper' ≡ keeper)

-- ---- all of them

-- behind its stubs a life took this course: it looked again, where that is due, and then its host went on, unless something held it back
pub record HasGoneOn (course : Course) (before seen after : Devices) : Type 0 where
  pub looks : LooksAgain (looks_again course.stubs) (behind_stubs course) course.again before seen
  pub host : IsDrivenBehind course seen after

-- a life took this course: first its stubs, and then what comes behind them
pub record AreParts (course : Course) (before between seen after : Devices) : Type 0 where
  pub stubs : AreBrought (stubs_of course.first course.stubs) before between
  pub rest : HasGoneOn course between seen after

-- a line and a keeper at a moment
pub record Held (K : Type 0) : Type 0 where
  pub line : LineTold
  pub keeper : K

abbrev pub held : {K : Type 0} → LineTold → K → Held K
held line keeper = record { line = line; keeper = keeper }

-- what they tell
abbrev pub told_by : {K : Type 0} → KeeperCalls K Kept → Held K → Devices
told_by calls hands = devices hands.line (calls.told hands.keeper)

-- the same, with what each made of the keeper
pub record HasGoneOnOver {K : Type 0} (calls : KeeperCalls K Kept) (course : Course) (before after : Held K) : Type 0 where
  pub seen : LineTold
  pub gone : HasGoneOn course (told_by calls before) (devices seen (calls.told before.keeper)) (told_by calls after)
  pub kept : IsKeptBehind calls course before.keeper after.keeper

pub record ArePartsOver {K : Type 0} (calls : KeeperCalls K Kept) (course : Course) (before after : Held K) : Type 0 where
  pub between : Held K
  pub stubs : AreBrought (stubs_of course.first course.stubs) (told_by calls before) (told_by calls between)
  pub stubs_kept : AreKept calls (stubs_of course.first course.stubs) before.keeper between.keeper
  pub rest : HasGoneOnOver calls course between after
