-- What becomes of a load, by what becomes of its plan.
use Rattle.std.proofs.Common.{◌≡◌, ◌∙◌, ℕ, List, Option, Some, None, Result, Ok, Err, IfOk, IfErr, inl, inr, ap, subst, sym, ⊎_elim}
use Rattle.machine_load.specs.Asked.{Change}
use Rattle.machine_load.specs.Load.{SurroundingsTold, Finish, Going, HowItGoesOn, Setting}
use Rattle.machine_load.specs.RecordDisk.{RecordDisk, new_record}
use Rattle.machine_load.specs.Scene.{Scene}
use Rattle.machine_load.proofs.Driving.{reported_also, unreported_also}
use Rattle.record_file.specs.DiskStep.{DiskStep}
use Rattle.console_lines.specs.Dialling.{Call, LineRequest}
use Rattle.tape_image.specs.Plan.{PlanValue, starting}
use Rattle.endings.specs.declared.failure.Failure.{Failure}
use Rattle.endings.specs.declared.status.Status.{Status}
use Rattle.request_values.specs.Change.{◌⇒◌}
use Rattle.request_values.specs.declared.machine.Load.{Load}
use Rattle.requests.specs.Loading.{AreLoaded, AreUnloaded, IsLoadFailure, IsLoadOver, IsRecordLetGo, PlannedLoad, console_for, first_record, goes_on_in, planned_load, scene_at, task_of}
use Rattle.requests.specs.Moment.{Moment, intake_at}
use Rattle.requests.specs.Planning.{IsPlanned}
use Rattle.input_files.specs.Opening.{Name}

-- what is said of how a load goes on
abbrev pub going_so : PlannedLoad → HowItGoesOn → PlannedLoad
going_so load goes = record load { goes_so = goes }

-- a load that goes on so goes on as is said of it
module _ (load : PlannedLoad) (GoesSo : HowItGoesOn) (also : (going : Going) (around : Change SurroundingsTold) (finish : Finish) → GoesSo going around finish → load.goes_so going around finish) (scenes : Change Scene) where
  over_also : (status : Status) → IsLoadOver (going_so load GoesSo) scenes status → IsLoadOver load scenes status
  over_also status h = record {
    ending = h.ending;
    between = h.between;
    reported = reported_also GoesSo load.goes_so also (task_of load) (scenes.before ⇒ h.between) h.ending h.reported;
    ended = h.ended;
    no_more = h.no_more;
  }

  failure_also : (failure : Failure) → IsLoadFailure (going_so load GoesSo) scenes failure → IsLoadFailure load scenes failure
  failure_also failure =
      ⊎_elim
      (λ h. inl (record { fault = h.fault; is_so = unreported_also GoesSo load.goes_so also (task_of load) scenes h.fault h.is_so; is_called = h.is_called }))
      (λ h. inr (record {
        ending = h.ending;
        between = h.between;
        reported = reported_also GoesSo load.goes_so also (task_of load) (scenes.before ⇒ h.between) h.ending h.reported;
        is_so = h.is_so;
        no_more = h.no_more;
      }))

-- where the console's line leads is known from before a load
module _ (load : PlannedLoad) (before : Scene) (setting : Setting) (asked : Option (List LineRequest)) (call call' : Call) where
  abbrev after : Call → Scene
  after leads = record { setting = setting; asked = asked; call = leads }

  pub loaded_as : (status : Status) → IsLoadOver load (before ⇒ after call) status → IsLoadOver load (before ⇒ after call') status
  loaded_as status h = record {
    ending = h.ending;
    between = h.between;
    reported = h.reported;
    ended = record { listened = h.ended.listened; status_is = h.ended.status_is };
    no_more = record { around_same = h.no_more.around_same; asked_same = h.no_more.asked_same };
  }

  pub failed_as : (failure : Failure) → IsLoadFailure load (before ⇒ after call) failure → IsLoadFailure load (before ⇒ after call') failure
  failed_as failure =
      ⊎_elim
      (λ h. inl (record { fault = h.fault; is_so = record { fault = h.is_so.fault; asked = h.is_so.asked }; is_called = h.is_called }))
      (λ h. inr (record {
        ending = h.ending;
        between = h.between;
        reported = h.reported;
        is_so = ⊎_elim (λ unheard. inl (record { failed = unheard.failed; given_back = unheard.given_back; nothing_written = unheard.nothing_written })) inr h.is_so;
        no_more = record { around_same = h.no_more.around_same; asked_same = h.no_more.asked_same };
      }))

-- a disk of which this is known is one with a new record
new_is : (b : RecordDisk) (name : List ℕ) (asked : Option (List DiskStep)) (holds : Option (List ℕ)) → b.asked ≡ asked → b.name ≡ name → b.known ≡ None → b.holds ≡ holds
    → b ≡ new_record name asked holds
new_is b name asked holds p q r h = λ i. record { asked = p i; name = q i; known = r i; holds = h i }

-- so the record is new that a file has
pub first_is : (file : Option Name) (name : Name) (known : Moment) (b : RecordDisk) → file ≡ Some name → b.asked ≡ known.asked.outside.disk → b.name ≡ name.now
    → b.known ≡ None → b.holds ≡ known.holds name.now → Some b ≡ first_record file known
first_is file name known b is p q r h =
    subst (λ file. Some b ≡ first_record file known) (sym is) (ap Some (new_is b name.now known.asked.outside.disk (known.holds name.now) p q r h))

-- what a file of this name holds is on the same disk
pub same_held : {D : Type 0} (holds : D → List ℕ → Option (List ℕ)) (disk disk' : D) (name name' : List ℕ) → disk ≡ disk' → name ≡ name' → holds disk name ≡ holds disk' name'
same_held holds disk disk' name name' p q = λ i. holds (p i) (q i)

-- a load within its surroundings is one of the tapes, where their plan is known, and what their record was before and behind it
module _ (names : List Name) (load : Load) (before after : Moment) (plan : PlanValue) (planned : IsPlanned names (intake_at before) (intake_at after) plan)
    (started : PlanValue) (same : started ≡ starting plan load.start) (first last : Option RecordDisk) (is_first : first ≡ first_record load.record before)
    (let_go : IsRecordLetGo load.record last (before ⇒ after)) (call' : Call)
    (GoesSo : HowItGoesOn) (also : (going : Going) (around : Change SurroundingsTold) (finish : Finish) → GoesSo going around finish → goes_on_in load.record going around finish) where
  abbrev reached : Scene
  reached = scene_at (record { asked = after.asked.outside.for_lines; call = call'; lines = after.asked.outside.lines; out = after.held.out }) last

  abbrev there : Scene
  there = scene_at (console_for load after) last

  abbrev begun : Option RecordDisk → Scene
  begun record_first = scene_at (console_for load before) record_first

  pub tapes_loaded : (result : Result Status Failure) → IfOk result (IsLoadOver (going_so (planned_load started load) GoesSo) (begun first ⇒ reached))
      → IfOk result (AreLoaded names load (before ⇒ after))
  tapes_loaded (Ok status) h = record {
    plan = plan;
    planned = planned;
    last = last;
    loaded = loaded_as (planned_load (starting plan load.start) load) (begun (first_record load.record before)) there.setting there.asked call' there.call status
        (subst (λ d. IsLoadOver (planned_load (starting plan load.start) load) (begun d ⇒ reached) status) is_first
        (subst (λ s. IsLoadOver (planned_load s load) (begun first ⇒ reached) status) same
        (over_also (planned_load started load) GoesSo also (begun first ⇒ reached) status h)));
    let_go = let_go;
  }
  tapes_loaded (Err failure) h = tt

  pub tapes_unloaded : (result : Result Status Failure) → IfErr result (IsLoadFailure (going_so (planned_load started load) GoesSo) (begun first ⇒ reached))
      → IfErr result (AreUnloaded names load (before ⇒ after))
  tapes_unloaded (Ok status) h = tt
  tapes_unloaded (Err failure) h = inr (record {
    plan = plan;
    planned = planned;
    last = last;
    failed = failed_as (planned_load (starting plan load.start) load) (begun (first_record load.record before)) there.setting there.asked call' there.call failure
        (subst (λ d. IsLoadFailure (planned_load (starting plan load.start) load) (begun d ⇒ reached) failure) is_first
        (subst (λ s. IsLoadFailure (planned_load s load) (begun first ⇒ reached) failure) same
        (failure_also (planned_load started load) GoesSo also (begun first ⇒ reached) failure h)));
    let_go = let_go;
  })
