-- The record that a life leaves, by what the engine's contract says of a keeper that writes it.
use Rattle.std.specs.Prelude.{◌≡◌, ℕ, false, List, Some, None}
use Rattle.tape_image.specs.Plan.{IsPlan}
use Rattle.host_devices.specs.declared.item.Item.{Item}
use Rattle.host_devices.specs.declared.item.Kept.{Kept}
use Rattle.engine.specs.declared.stop.Stop.TheVariants.{Ended, KeepFailed, CutOff}
use Rattle.engine.specs.Keeping.{KeeperCalls, KeptBy}
use Rattle.load_engine.specs.Driven.{turns_give}
use Rattle.load_engine.specs.Driving.{LoadStop}
use Rattle.load_record.specs.Keeper.{Keeper, HasKept, HasCutShort, HoldsRecord, fault_now}
use Rattle.load_lives.specs.Lives.{IsLeft}
use Rattle.load_lives.specs.Stops.{EngineRun, HasRun, WentOut, decided, turns_of}

-- what went out of a dialogue, by how the engine stopped: where the keeper failed the last key was never sent
abbrev pub WentOutAt : LoadStop → List Item → List Item → List Item → Type 0
WentOutAt (KeepFailed fault) all told items = items ≡ told
WentOutAt (CutOff cut) all told items = WentOut all told items
WentOutAt (Ended end) all told items = WentOut all told items

-- what the calls of a keeper make of it that writes a record, in whose list nothing is told
abbrev pub record_calls : KeeperCalls Keeper Kept
record_calls = record {
  told = λ _. None;
  failures = λ keeper. keeper.failures;
  fault = λ keeper. fault_now keeper.failures;
  keeps = HasKept;
  fails = HasCutShort;
}

-- a load whose keeper writes the record, up to where it stopped: the text that the record had before, and the keeper before and after
pub record KeptLoad : Type 0 where
  pub run : EngineRun
  pub stop : LoadStop
  pub text : List ℕ
  pub keep : Keeper
  pub keep' : Keeper

-- the keeper held the record of the first words of the load's plan, and no mark
pub record WasBegun (load : KeptLoad) : Type 0 where
  pub fits : IsPlan load.run.plan
  pub no_mark : load.run.progress.going ≡ false
  pub holds : HoldsRecord load.keep load.run.plan load.run.progress.verified

-- the engine stopped so, and this went out of its dialogue
pub record WasStopped (load : KeptLoad) : Type 0 where
  pub driven : HasRun load.run load.text (Some load.stop)
  pub out : WentOutAt load.stop (decided driven) driven.session.said load.run.items

-- the keeper was told of each word and of the mark
abbrev pub WasKept : KeptLoad → Type 0
WasKept load = KeptBy record_calls (turns_give (turns_of load.run (Some load.stop))) load.keep load.keep'

-- the keeper's writer tells what it holds, and this is the record that a life leaves
pub record HasLeft (load : KeptLoad) : Type 0 where
  pub now : List ℕ
  pub told : load.keep'.text ≡ Some now
  pub left : IsLeft load.run.plan load.run.progress load.run.core load.run.items load.text now

-- wherever the engine stopped, a keeper that held the record of the life's first words, and no mark, holds the record that the life leaves
abbrev pub KeepersLeave : Type 0
KeepersLeave = (load : KeptLoad) → WasBegun load → WasStopped load → WasKept load → HasLeft load
