-- Where a life may stop: what the engine promises is a life, and a host that is killed at any moment has lived one.
use Rattle.std.specs.Prelude.{◌≡◌, ℕ, ◌+◌, ◌^◌, ◌<◌, ◌≤◌, ◌⊎◌, Bool, true, false, List, ◌++◌, Option, Some}
use Rattle.std.specs.List.{slice_get}
use Rattle.tape_image.specs.Plan.{PlanValue}
use Rattle.tape_image.specs.Word.{WordValue}
use Rattle.host_core.specs.declared.heard.Heard.{Heard}
use Rattle.host_core.specs.declared.progress.Progress.{Progress}
use Rattle.host_core.specs.Core.{Core, begun_by}
use Rattle.host_devices.specs.declared.item.Item.{Item}
use Rattle.host_devices.specs.Dialogue.{said, dialogue}
use Rattle.host_devices.specs.declared.item.Kept.{Kept}
use Rattle.engine.specs.Session.{SessionTold}
use Rattle.load_engine.specs.Driving.{Driving, LoadSession, LoadStop, driving}
use Rattle.load_record.specs.declared.version.Version.TheVariants.{Second}
use Rattle.load_record.specs.RecordText.{mark_text, open_run, record_text, second_piece}
use Rattle.load_lives.specs.Lives.{WireAndRecord, Life, last_core, GoesOnFrom, PassesOver, IsLeft, IsLife}

-- what went out of a dialogue of which the line tells this: that, or all of it, where the call that failed sent its key after all
abbrev pub WentOut : List Item → List Item → List Item → Type 0
WentOut all told items = (items ≡ told) ⊎ (items ≡ all)

-- what the engine did of a load: whether it was careful, its plan, the progress and the patience that it began with, how many turns it took at most, the
-- core that it came to, what line and keeper told before and after, and what went out
pub record EngineRun : Type 0 where
  pub careful : Bool
  pub plan : PlanValue
  pub progress : Progress
  pub patience : ℕ
  pub turns : ℕ
  pub core : Core
  pub before : SessionTold Kept
  pub after : SessionTold Kept
  pub items : List Item

-- the core that it began with, and its turns
abbrev pub opening : EngineRun → Core
opening run = begun_by run.careful run.plan run.progress.verified run.progress.going run.patience

abbrev pub turns_of : EngineRun → Option LoadStop → Driving
turns_of run stop = driving (opening run) run.core stop

-- it went on from what a record's text says, and its turns stopped so
pub record HasRun (run : EngineRun) (text : List ℕ) (stop : Option LoadStop) : Type 0 where
  pub patient : run.patience < 2 ^ 32
  pub goes_on : GoesOnFrom run.plan text run.progress
  pub session : LoadSession run.turns (turns_of run stop) run.before run.after

-- all that its core decided to say
abbrev pub decided : {run : EngineRun} {text : List ℕ} {stop : Option LoadStop} → HasRun run text stop → List Item
decided {run} h = dialogue (opening run) h.session.heard

-- a load that stopped, or may go on (None), with the line and the record that it found and left
pub record StoppedLoad : Type 0 where
  pub run : EngineRun
  pub stop : Option LoadStop
  pub found : WireAndRecord
  pub left : WireAndRecord

-- the engine drove it, and this went out of its dialogue
pub record WasDriven (load : StoppedLoad) : Type 0 where
  pub driven : HasRun load.run load.found.text load.stop
  pub out : WentOut (decided driven) driven.session.said load.run.items

-- what went out passed over the line
abbrev pub HasPassed : StoppedLoad → Type 0
HasPassed load = PassesOver load.found.wire load.run.items load.left.wire

-- the record was left as a life leaves it
abbrev pub LeftRecord : StoppedLoad → Type 0
LeftRecord load = IsLeft load.run.plan load.run.progress load.run.core load.run.items load.found.text load.left.text

-- it is a life, with this core and these items
pub record IsALife (load : StoppedLoad) : Type 0 where
  pub life : Life
  pub core : last_core load.run.plan life ≡ load.run.core
  pub items : life.items ≡ load.run.items
  pub is_life : IsLife load.run.plan load.found life load.left

-- the engine's turns, however they stopped, are a life, where what went out passed over the line and the record was left as a life leaves it
abbrev pub SessionsAreLives : Type 0
SessionsAreLives = (load : StoppedLoad) → WasDriven load → HasPassed load → LeftRecord load → IsALife load

-- a host was stopped where it had said so much: it heard the first of these things, and said all that they make it say, or all but the last key
pub record IsStoppedAt (core : Core) (things : List Heard) (front : List Item) : Type 0 where
  pub fewer : List Heard
  pub more : List Heard
  pub unsent : Option ℕ
  pub heard : things ≡ fewer ++ more
  pub says : dialogue core fewer ≡ front ++ said unsent

-- a host that is killed has said a front of what it would have said, and this is what a stopped life says
abbrev pub FrontsAreStopped : Type 0
FrontsAreStopped = (core : Core) (things : List Heard) (front rest : List Item) → dialogue core things ≡ front ++ rest → IsStoppedAt core things front

-- a text begins another
abbrev pub IsBeginning : List ℕ → List ℕ → Type 0
IsBeginning front text = (missing : List ℕ) × (front ++ missing ≡ text)

-- what a record's file holds at any moment of a life begins the record that the life leaves
pub record RecordsAreFronts : Type 0 where
  -- a record of fewer words
  pub fewer : (plan : PlanValue) (k more : ℕ) (mark : Bool) → k ≤ more → IsBeginning (record_text Second plan k false) (record_text Second plan more mark)
  -- a record whose next word was cut off anywhere while it was written
  pub word : (plan : PlanValue) (k : ℕ) (word : WordValue) (front : List ℕ) → slice_get plan.words k ≡ Some word →
      IsBeginning front (second_piece (open_run Second plan k) word) →
      IsBeginning (record_text Second plan k false ++ front) (record_text Second plan (k + 1) false)
  -- a record whose mark was
  pub mark : (plan : PlanValue) (k : ℕ) (front : List ℕ) → IsBeginning front (mark_text (open_run Second plan k)) →
      IsBeginning (record_text Second plan k false ++ front) (record_text Second plan k true)
