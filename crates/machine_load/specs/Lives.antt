-- A load is a life, or two in a row: so what is promised of lives in a row is promised of loads in a row.
use Rattle.std.specs.Prelude.{◌≡◌, ◌^◌, ◌<◌, ◌≤◌, ◌⊎◌, ℕ, Bool, true, false, List, [], ◌++◌, Option, Some, None}
use mathlib.Core.Logic.{inl, inr}
use Rattle.tape_image.specs.Plan.{PlanValue, IsPlan}
use Rattle.host_core.specs.Core.{Core}
use Rattle.host_devices.specs.declared.item.Item.{Item}
use Rattle.host_devices.specs.Dialogue.{dialogue}
use Rattle.host_devices.specs.Devices.{Devices, LineTold}
use Rattle.load_record.specs.Keeper.{Keeper, HoldsRecord}
use Rattle.load_lives.specs.Keepers.{WentOutAt, record_calls}
use Rattle.load_lives.specs.Lives.{PassesOver, WireAndRecord, last_core}
use Rattle.load_lives.specs.Stops.{WentOut}
use Rattle.exchange_law.specs.Law.{said_all}
use Rattle.exchange_law.specs.Start.{program as stub_program}
use Rattle.load_lives.specs.FastLives.{LinkAndRecord, PassesAt, last_core as fast_core}
use Rattle.load_lives.specs.FastLooksFirst.{FastLookingLife, IsFastLookingLife}
use Rattle.looking_law.specs.Belief.{dialogue as looks_of}
use Rattle.stub_engine.specs.Parts.{Bringing}
use Rattle.machine_load.specs.declared.load_end.LoadEnd.{LoadEnd}
use Rattle.machine_load.specs.declared.looks.Looks.{Looks}
use Rattle.machine_load.specs.Asked.{Change, Opened, task, ◌⇒◌}
use Rattle.machine_load.specs.Driving.{KeeperTells, IsDrivenOn}
use Rattle.machine_load.specs.Load.{SurroundingsTold, Finish, IsLived, IsLoad}
use Rattle.machine_load.specs.Looks.{AreLooks, looker_of}
use Rattle.machine_load.specs.Parts.{AreBrought, ArePartsOver, Course, HasGoneOn, Held, IsDrivenUnless, LooksAgain, behind_stubs, host_of, stubs_of, told_by, what_holds}
use Rattle.machine_load.specs.Stubs.{looks_again}
use Rattle.request_values.specs.declared.options.LoadOptions.{LoadOptions}
use Rattle.sample_looks.specs.LooksFirst.{LookingLife, IsLookingLife}

-- what the keeper of a record's file tells, where its writer tells what it holds, and where it held nothing before
abbrev pub of_file : KeeperTells Keeper
of_file = record {
  calls = record_calls;
  begins = λ keeper plan k. HoldsRecord keeper plan k;
  text = λ keeper. keeper.text;
}

-- what went out of the looks: what the line tells, or all, where the call that failed sent its key after all
abbrev pub LooksGoOut : {first : Core} {asked : Bool} {looks : Looks} {before after : LineTold} → AreLooks first asked looks before after → List Item → Type 0
LooksGoOut {first} {asked} {looks} {before} {after} l items =
    WentOut (looks_of (looker_of first asked l.samples) l.looked.inquired.turns.session.heard)
    l.looked.inquired.turns.session.said items

-- what went out of what the stubs said: what the line tells, and perhaps some of the keys that a call failed to send
abbrev pub StubsGoOut : (stubs : Option Bringing) (before after : Devices) → AreBrought stubs before after → List Item → Type 0
StubsGoOut None before after same items = items ≡ []
StubsGoOut (Some stubs) before after by items =
    (sent rest : List ℕ) × (by.all.brought.unsent ≡ sent ++ rest) × (items ≡ by.all.brought.said ++ said_all sent)

-- what went out of the looks behind them, where words were looked at again
abbrev pub AgainGoesOut : (due : Bool) (behind : Core) (again : Option Looks) (before after : Devices) → LooksAgain due behind again before after
    → List Item → Type 0
AgainGoesOut true behind again before after has items = LooksGoOut has.looked items
AgainGoesOut false behind again before after none items = items ≡ []

-- what went out of the host's dialogue with the console: what the line tells, or all of the dialogue, where the call that failed sent its key
-- after all; and nothing, where the host was held back
abbrev pub HostGoesOut : (held : Option LoadEnd) (course : Course) (before after : Devices) → IsDrivenUnless held course before after
    → List Item → Type 0
HostGoesOut None course before after out items =
    WentOutAt out.stop (dialogue (host_of course) out.driven.session.heard) out.driven.session.said items
HostGoesOut (Some why) course before after idle items = items ≡ []

-- what went out behind the stubs: of the looks there, and of the host
abbrev pub RestGoesOut : {course : Course} {before seen after : Devices} → HasGoneOn course before seen after → List Item → List Item → Type 0
RestGoesOut {course} {before} {seen} {after} gone again rest =
    AgainGoesOut (looks_again course.stubs) (behind_stubs course) course.again before seen gone.looks again
    × HostGoesOut (what_holds course) course seen after gone.host rest

-- what went out of all parts: of the stubs, of the looks behind them, and of the host
abbrev pub PartsGoOut : {course : Course} {before after : Held Keeper} → ArePartsOver of_file.calls course before after
    → List Item → List Item → List Item → Type 0
PartsGoOut {course} {before} {after} parts front again rest =
    StubsGoOut (stubs_of course.first course.stubs) (told_by of_file.calls before) (told_by of_file.calls parts.between) parts.stubs front
    × RestGoesOut parts.rest.gone again rest

-- what was said of a life: by its looks, by its stubs, by its looks behind them, and then by its host; nothing, where it was over at once, and nothing behind
-- looks that held it up
abbrev pub GoesOut : {life : Opened} {around : Change SurroundingsTold} {finish : Finish} → IsLived (IsDrivenOn of_file) life around finish
    → List Item → List Item → List Item → List Item → Type 0
GoesOut {life} {around} {finish} (inl idle) looks front again rest = (looks ≡ []) × (front ≡ []) × (again ≡ []) × (rest ≡ [])
GoesOut {life} {around} {finish} (inr (inl held)) looks front again rest =
    LooksGoOut held.first_looks.looked looks × (front ≡ []) × (again ≡ []) × (rest ≡ [])
GoesOut {life} {around} {finish} (inr (inr goes)) looks front again rest =
    LooksGoOut goes.first_looks.looked looks × PartsGoOut goes.driven.parts front again rest

-- a load whose keeper writes the record's file: what it is to do, what its surroundings tell before and after, what came of it, and what went out of its
-- looks, of its stubs, of its looks behind them and of its host
pub record FiledLoad : Type 0 where
  pub plan : PlanValue
  pub options : LoadOptions
  pub before : SurroundingsTold
  pub after : SurroundingsTold
  pub finish : Finish
  pub looks : List Item
  pub front : List Item
  pub again : List Item
  pub rest : List Item

-- it is as `load` promises, with one text in the record's file before it and one behind it
pub record WasMade (load : FiledLoad) (old new : List ℕ) : Type 0 where
  pub fits : IsPlan load.plan
  pub patient : load.options.patience < 2 ^ 32
  pub promised : IsLoad (IsDrivenOn of_file) (task load.plan load.options) (load.before ⇒ load.after) load.finish
  pub found : load.before.record_text ≡ Some old
  pub left : load.after.record_text ≡ Some new
  pub out : GoesOut promised.life load.looks load.front load.again load.rest

-- its hosts are plain
abbrev pub IsPlain : FiledLoad → Type 0
IsPlain load = load.options.careful ≡ false

-- it brings in no stub
pub record IsWithoutStubs (load : FiledLoad) : Type 0 where
  pub unasked : load.options.fast ≡ false
  pub unsaid : load.front ≡ []

-- it is a life at a station which may look first, where no word was looked at again
pub record CameToAFastLife (load : FiledLoad) (old new : LinkAndRecord) : Type 0 where
  pub life : FastLookingLife
  pub core : fast_core load.plan life.life ≡ load.finish.core
  pub looks : life.looks ≡ load.looks
  pub front : life.life.front ≡ load.front
  pub not_again : load.again ≡ []
  pub rest : life.life.rest ≡ load.rest
  pub is_life : IsFastLookingLife stub_program load.plan old life new

-- a line with other losses counted: for the next life, which counts its own, it is the same
abbrev pub with_losses : LinkAndRecord → ℕ → LinkAndRecord
with_losses x lost = record { link = record x.link { lost = lost }; text = x.text }

-- or it is two in a row: the first is over with its stubs, and the second, which has none, looks at words of the record that this left. Losses that came
-- before the second are not counted for it
pub record CameToTwoFastLives (load : FiledLoad) (old new : LinkAndRecord) : Type 0 where
  pub first : FastLookingLife
  pub looks : first.looks ≡ load.looks
  pub front : first.life.front ≡ load.front
  pub no_rest : first.life.rest ≡ []
  pub between : LinkAndRecord
  pub is_first : IsFastLookingLife stub_program load.plan old first between
  pub second : FastLookingLife
  pub core : fast_core load.plan second.life ≡ load.finish.core
  pub again : second.looks ≡ load.again
  pub no_front : second.life.front ≡ []
  pub rest : second.life.rest ≡ load.rest
  pub lost : ℕ
  pub fewer : lost ≤ new.link.lost
  pub is_second : IsFastLookingLife stub_program load.plan between second (with_losses new lost)

-- one life at a machine
pub record CameToALife (load : FiledLoad) (old new : WireAndRecord) : Type 0 where
  pub life : LookingLife
  pub core : last_core load.plan life.life ≡ load.finish.core
  pub looks : life.looks ≡ load.looks
  pub rest : life.life.items ≡ load.rest
  pub is_life : IsLookingLife load.plan old life new

-- a plain load whose keeper writes the record's file, with stubs or without, is a life at a station which may look first, or two, from the line and the
-- record that it found to those that it left
abbrev pub LoadsAreFastLives : Type 0
LoadsAreFastLives =
    (load : FiledLoad) (old new : LinkAndRecord) → IsPlain load → WasMade load old.text new.text →
    PassesAt stub_program old.link (load.looks ++ (load.front ++ (load.again ++ load.rest))) new.link →
    CameToAFastLife load old new ⊎ CameToTwoFastLives load old new

-- one without stubs, plain or careful, is a life at a machine, of which more is promised
abbrev pub LoadsAreLives : Type 0
LoadsAreLives =
    (load : FiledLoad) (old new : WireAndRecord) → IsWithoutStubs load → WasMade load old.text new.text →
    PassesOver old.wire (load.looks ++ load.rest) new.wire → CameToALife load old new
