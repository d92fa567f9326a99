-- Loads by their lives.
use Rattle.std.proofs.Common.{◌≡◌, ◌⊎◌, ℕ, List, [], Option, Some, None, option_map, refl, sym, subst, inl, inr}
use Rattle.host_core.specs.Core.{Core}
use Rattle.host_devices.specs.Devices.{Devices, line_told}
use Rattle.host_devices.specs.declared.item.Kept.{Kept}
use Rattle.engine.specs.Keeping.{IsKeptBy, KeeperCalls}
use Rattle.host_devices.specs.Told.{Gains}
use Rattle.host_devices.specs.Turns.{most_turns}
use Rattle.load_engine.specs.Driving.{LoadStop as Stop, driving}
use Rattle.load_engine.specs.Driven.{IsDriven, turns_give}
use Rattle.console_lines.specs.Dialling.{Call, LineRequest, asked_once}
use Rattle.machine_load.specs.Asked.{Change, LoadTask, Opened, opened_as, ◌⇒◌}
use Rattle.machine_load.specs.Called.{asked_by}
use Rattle.machine_load.specs.Driving.{KeeperTells, IsDrivenOn, on_disk}
use Rattle.machine_load.specs.Load.{SurroundingsTold, Ending, Finish, Going, HowItGoesOn, Setting, IsLived, IsLoad, going_on}
use Rattle.machine_load.specs.LoadFault.{IsLoadFault}
use Rattle.machine_load.specs.Looks.{behind_looks}
use Rattle.record_file.specs.DiskRecord.{HasBegun}
use Rattle.machine_load.specs.Parts.{Course, IsDrivenBehind, IsDrivenUnless, IsKeptBehind, Unless, host_of, stop_of, turns_of, what_holds}
use Rattle.machine_load.specs.declared.load_end.LoadEnd.TheVariants.{Driven}
use Rattle.machine_load.specs.Scene.{IsLoadReported, IsLoadUnreported, IsLoaded, IsNotLoaded, LoadTells, Scene, ending}
use Rattle.machine_load.specs.declared.outcome.Outcome.{Outcome}
use Rattle.machine_load.specs.declared.fault.LoadFault.{LoadFault}
use Rattle.machine_load.specs.declared.fault.LoadFault.TheVariants.{Record, RecordInUse, ReadRecord, Connect, WriteRecord, WriteOutput, Memory}

-- what is said of how a life goes on is said of its load
module _ (GoesSo GoesSo' : HowItGoesOn) (also : (going : Going) (around : Change SurroundingsTold) (finish : Finish) → GoesSo going around finish → GoesSo' going around finish) where
  lived_also : (opened : Opened) (around : Change SurroundingsTold) (finish : Finish) → IsLived GoesSo opened around finish → IsLived GoesSo' opened around finish
  lived_also opened around finish (inl idle) = inl idle
  lived_also opened around finish (inr (inl held)) = inr (inl held)
  lived_also opened around finish (inr (inr life)) = inr (inr (record {
    between = life.between;
    first_looks = life.first_looks;
    all_stand = life.all_stand;
    driven = also (going_on (behind_looks opened.first life.first_looks.looks) opened.fast life.first_looks.behind) (life.between ⇒ around.after) finish life.driven;
  }))

  load_also : (task : LoadTask) (around : Change SurroundingsTold) (finish : Finish) → IsLoad GoesSo task around finish → IsLoad GoesSo' task around finish
  load_also task around finish load = record {
    first = load.first;
    writable = load.writable;
    between = load.between;
    opened = load.opened;
    life = lived_also (opened_as load.first task.options.fast load.writable) (load.between ⇒ around.after) finish load.life;
  }

  pub reported_also : (task : LoadTask) (scenes : Change Scene) (ending : Ending) → IsLoadReported GoesSo task scenes ending → IsLoadReported GoesSo' task scenes ending
  reported_also task scenes ending load = record {
    reported = record {
      looks = load.reported.looks;
      stubs = load.reported.stubs;
      again = load.reported.again;
      last = load.reported.last;
      load = load_also task (scenes.before.setting.around ⇒ scenes.after.setting.around) _ load.reported.load;
      marked_is = load.reported.marked_is;
      reported = load.reported.reported;
      line_kept = load.reported.line_kept;
    };
    asked = load.asked;
  }

  fault_also : (task : LoadTask) (setting : Change Setting) (why : LoadFault) → IsLoadFault GoesSo task setting why → IsLoadFault GoesSo' task setting why
  fault_also task setting ReadRecord h = h
  fault_also task setting RecordInUse h = h
  fault_also task setting (Record why) h = h
  fault_also task setting Connect h = h
  fault_also task setting WriteRecord h = h
  fault_also task setting (WriteOutput marked) h = record {
    finish = h.finish;
    load = load_also task (setting.before.around ⇒ setting.after.around) h.finish h.load;
    marked_is = h.marked_is;
    given_back = h.given_back;
    missing = h.missing;
    reported = h.reported;
  }
  fault_also task setting Memory h = h

  pub unreported_also : (task : LoadTask) (scenes : Change Scene) (why : LoadFault) → IsLoadUnreported GoesSo task scenes why → IsLoadUnreported GoesSo' task scenes why
  unreported_also task scenes why load = record { fault = fault_also task (scenes.before.setting ⇒ scenes.after.setting) why load.fault; asked = load.asked }

-- a keeper that was begun on a disk, whatever its file is, is one of a record in a file
pub kept_on_disk : {T : Type 0} (contents : T → Option (List ℕ)) (going : Going) (around : Change SurroundingsTold) (finish : Finish)
    → IsDrivenOn (record on_disk { begins = λ keeper plan k. HasBegun contents plan k keeper }) going around finish → IsDrivenOn on_disk going around finish
kept_on_disk contents going around finish h = record {
  asked = h.asked;
  begun_there = h.begun_there;
  stubs_asked = h.stubs_asked;
  line' = h.line';
  has_line = h.has_line;
  keeper = h.keeper;
  begun_so = record {
    file = contents h.begun_so.file;
    written = h.begun_so.written;
    lasts = h.begun_so.lasts;
    knows = h.begun_so.knows;
    sound = h.begun_so.sound;
  };
  keeper' = h.keeper';
  parts = h.parts;
  left = h.left;
}

-- what is asked for a line is asked for one that tells
asked_by_told : {L M : Type 0} (tell : L → M) (call : Call) (line : Option L) (asked asked' : Option (List LineRequest)) → Gains asked asked' (asked_by call line)
    → Gains asked asked' (asked_by call (option_map tell line))
asked_by_told tell call (Some line) asked asked' h = h
asked_by_told tell call None asked asked' h = h

-- a load is one for whoever does not know the type of its line
pub load_reported : {L K : Type 0} (tells : LoadTells L K) (task : LoadTask) (scenes : Change Scene) (outcome : Outcome L) → IsLoaded tells task scenes outcome
    → IsLoadReported (IsDrivenOn tells.keeper) task scenes (ending tells.line outcome)
load_reported tells task scenes outcome load =
    record { reported = load.reported; asked = asked_by_told (line_told tells.line) scenes.before.call outcome.line scenes.before.asked scenes.after.asked load.asked }

pub load_unreported : {K : Type 0} (keeper : KeeperTells K) (task : LoadTask) (scenes : Change Scene) (why : LoadFault) → IsNotLoaded keeper task scenes why
    → IsLoadUnreported (IsDrivenOn keeper) task scenes why
load_unreported keeper task scenes why load = record { fault = load.fault; asked = load.asked }

-- the line of a load whose report failed was asked for, where there was one
pub asked_untold : {L : Type 0} (call : Call) (line : Option L) (asked asked' : Option (List LineRequest)) → Gains asked asked' (asked_by call line)
    → Gains asked asked' [] ⊎ Gains asked asked' (asked_once call)
asked_untold call (Some line) asked asked' once = inr once
asked_untold call None asked asked' none = inl none

-- a host that its stubs or its looks held back
pub held_behind : {K : Type 0} (calls : KeeperCalls K Kept) (course : Course) (here : Devices) (keeper : K) → Some course.end ≡ what_holds course → course.core ≡ host_of course
    → IsDrivenBehind course here here × IsKeptBehind calls course keeper keeper
held_behind calls course here keeper is same = (
  subst (λ why. IsDrivenUnless why course here here) is (record { core = same; end_is = refl; devices_same = refl }),
  subst (λ why. Unless why (IsKeptBy calls (turns_give (turns_of course)) keeper keeper) (λ _. keeper ≡ keeper)) is refl,
)

-- one that nothing held back
pub free_behind : {K : Type 0} (calls : KeeperCalls K Kept) (course : Course) (core : Core) (stop : Stop) (before after : Devices) (keeper keeper' : K) → None ≡ what_holds course → core ≡ host_of course → course.end ≡ Driven stop
    → IsDriven most_turns (driving core course.core (Some stop)) before after → IsKeptBy calls (turns_give (driving core course.core (Some stop))) keeper keeper'
    → IsDrivenBehind course before after × IsKeptBehind calls course keeper keeper'
free_behind calls course core stop before after keeper keeper' is same ended driven kept = (
  subst (λ why. IsDrivenUnless why course before after) is
      (record { stop = stop; end_is = ended; driven = subst (λ (core : Core). IsDriven most_turns (driving core course.core (Some stop)) before after) same driven }),
  subst (λ why. Unless why (IsKeptBy calls (turns_give (turns_of course)) keeper keeper') (λ _. keeper' ≡ keeper)) is
      (subst (λ end. IsKeptBy calls (turns_give (driving (host_of course) course.core (stop_of end))) keeper keeper') (sym ended)
      (subst (λ (core : Core). IsKeptBy calls (turns_give (driving core course.core (Some stop))) keeper keeper') same kept)),
)
