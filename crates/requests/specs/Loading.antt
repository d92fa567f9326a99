-- What becomes of a request to load a real machine.
use Rattle.std.specs.Prelude.{◌≡◌, ◌⊎◌, ℕ, List, Option, Some, None, codes}
use Rattle.console_lines.specs.Console.{ConsoleTold}
use Rattle.tape_image.specs.Plan.{PlanValue, starting}
use Rattle.machine_load.specs.Asked.{Change, LoadTask, task, ◌⇒◌}
use Rattle.machine_load.specs.Driving.{IsDrivenOn, in_memory, on_disk}
use Rattle.machine_load.specs.GivenBack.{IsGivenBack}
use Rattle.machine_load.specs.Load.{Ending, HowItGoesOn}
use Rattle.machine_load.specs.RecordDisk.{IsClosedBehind, RecordDisk, left_by_none, new_record}
use Rattle.record_file.specs.Reading.{OldText}
use Rattle.machine_load.specs.Reporting.{AsksNoMore}
use Rattle.machine_load.specs.Scene.{IsLoadReported, IsLoadUnreported, Scene}
use Rattle.machine_load.specs.declared.fault.LoadFault.{LoadFault}
use Rattle.progress_display.specs.declared.showing.KeptIn.{KeptIn}
use Rattle.progress_display.specs.declared.showing.KeptIn.TheVariants.{Nothing, Record}
use Rattle.endings.specs.declared.failure.Failure.{Failure}
use Rattle.endings.specs.declared.status.Status.{Status}
use Rattle.request_values.specs.declared.machine.Load.{Load as LoadRequest}
use Rattle.input_files.specs.Opening.{Name}
use Rattle.requests.specs.Ending.{IsFailureOf, IsLoadEndFailure, IsLoadEndStatus}
use Rattle.requests.specs.declared.request_fault.RequestFault.TheVariants as request_fault
use Rattle.requests.specs.Planning.{HaveNoPlan, IsPlanned}
use Rattle.requests.specs.Asked.{console_of}
use Rattle.requests.specs.Moment.{AsksNoDisk, Moment, intake_at}
use Rattle.requests.specs.Listening.{IsLastCut, IsLastHeard, quiet_time, seconds_of}

-- where it is kept what a load has done
abbrev pub kept_in : Option Name → KeptIn
kept_in None = Nothing
kept_in (Some name) = Record

-- what faults call the record: its file's name, where it has one
abbrev pub record_name : Option Name → List ℕ
record_name None = codes "the record in memory"
record_name (Some name) = name.now

-- how a load goes on behind its looks: over a keeper of the record in the file that is named, or over one in memory
abbrev pub goes_on_in : Option Name → HowItGoesOn
goes_on_in None = IsDrivenOn in_memory
goes_on_in (Some name) = IsDrivenOn on_disk

-- a load as it was asked for, with the plan of its tapes, and how it goes on
pub record PlannedLoad : Type 1 where
  pub plan : PlanValue
  pub request : LoadRequest
  pub goes_so : HowItGoesOn

abbrev pub planned_load : PlanValue → LoadRequest → PlannedLoad
planned_load plan request = record { plan = plan; request = request; goes_so = goes_on_in request.record }

-- what it is to do
abbrev pub task_of : PlannedLoad → LoadTask
task_of load = task load.plan load.request.options

-- what comes behind the report of a load that ended so: what there was to listen to, and then the end
pub record IsEnded (request : LoadRequest) (ending : Ending) (scenes : Change Scene) (status : Status) : Type 0 where
  pub listened : IsLastHeard (seconds_of request.listen ending.end) (quiet_time request.quiet_ms) ending.line (scenes.before.setting ⇒ scenes.after.setting)
  pub status_is : IsLoadEndStatus ending.end status

-- its line or its record's keeper had failed, or memory does not hold what the record says: nobody listened, and the line was given back
pub record IsEndedUnheard (request : LoadRequest) (ending : Ending) (scenes : Change Scene) (failure : Failure) : Type 0 where
  pub failed : IsLoadEndFailure ending.end ending.marked (record_name request.record) failure
  pub given_back : IsGivenBack scenes.before.setting.lines scenes.after.setting.lines ending.line
  pub nothing_written : scenes.after.setting.out ≡ scenes.before.setting.out

-- what fails behind the report: the load had, or the listening is cut
abbrev pub IsEndFailure : LoadRequest → Ending → Change Scene → Failure → Type 0
IsEndFailure request ending scenes failure =
    IsEndedUnheard request ending scenes failure
    ⊎ IsLastCut (seconds_of request.listen ending.end) ending.line (scenes.before.setting ⇒ scenes.after.setting) failure

-- a planned load was done: it was reported, and then came its end, for which nothing more was asked than that its line was given back
pub record IsLoadOver (load : PlannedLoad) (scenes : Change Scene) (status : Status) : Type 0 where
  pub ending : Ending
  pub between : Scene
  pub reported : IsLoadReported load.goes_so (task_of load) (scenes.before ⇒ between) ending
  pub ended : IsEnded load.request ending (between ⇒ scenes.after) status
  pub no_more : AsksNoMore (between ⇒ scenes.after)

-- it was reported, and failed all the same
pub record IsLoadBroken (load : PlannedLoad) (scenes : Change Scene) (failure : Failure) : Type 0 where
  pub ending : Ending
  pub between : Scene
  pub reported : IsLoadReported load.goes_so (task_of load) (scenes.before ⇒ between) ending
  pub is_so : IsEndFailure load.request ending (between ⇒ scenes.after) failure
  pub no_more : AsksNoMore (between ⇒ scenes.after)

-- it came to nothing
pub record IsLoadInVain (load : PlannedLoad) (scenes : Change Scene) (failure : Failure) : Type 0 where
  pub fault : LoadFault
  pub is_so : IsLoadUnreported load.goes_so (task_of load) scenes fault
  pub is_called : IsFailureOf (request_fault.Load fault) load.request.line.now (record_name load.request.record) failure

-- it failed
abbrev pub IsLoadFailure : PlannedLoad → Change Scene → Failure → Type 0
IsLoadFailure load scenes failure = IsLoadInVain load scenes failure ⊎ IsLoadBroken load scenes failure

-- what is found of earlier lives where the record is on no disk: nothing, since it is in memory alone
abbrev pub left_without : Option RecordDisk → Option OldText
left_without None = Some left_by_none
left_without (Some disk) = None

-- what is known of a load by what its console tells, with this record on a disk, which alone tells what the record is; a system does not tell in which
-- order a load asks it
abbrev pub scene_at : ConsoleTold → Option RecordDisk → Scene
scene_at console disk = record {
  setting = record { around = record { steps = None; record_text = None; disk = disk; left = left_without disk }; lines = console.lines; out = console.out };
  asked = console.asked;
  call = console.call;
}

-- what is told of the console that a load is meant for, and of standard output
abbrev pub console_for : LoadRequest → Moment → ConsoleTold
console_for load known = console_of load.line.now load.quiet_ms known.asked.outside known.held.out

-- the record that a load begins with: in a file it is a new one on the disk; one in memory alone is on none
abbrev pub first_record : Option Name → Moment → Option RecordDisk
first_record None known = None
first_record (Some name) known = Some (new_record name.now known.asked.outside.disk (known.holds name.now))

-- what is known of a load before it, and behind it, where its record is this one
abbrev pub scenes_of : LoadRequest → Option RecordDisk → Change Moment → Change Scene
scenes_of load last moments =
    scene_at (console_for load moments.before) (first_record load.record moments.before) ⇒ scene_at (console_for load moments.after) last

-- behind a load its record was let go, as the load had left it: one in a file was closed; for one in memory alone nothing was asked of the disk
abbrev pub IsRecordLetGo : Option Name → Option RecordDisk → Change Moment → Type 0
IsRecordLetGo None last moments = AsksNoDisk moments
IsRecordLetGo (Some name) None moments = ⊥
IsRecordLetGo (Some name) (Some last) moments = IsClosedBehind last moments.after.asked.outside.disk

-- the tapes of these names were loaded, as one, with the start that is asked for, at the console that is named, over the record that is named
pub record AreLoaded (names : List Name) (load : LoadRequest) (moments : Change Moment) (status : Status) : Type 0 where
  pub plan : PlanValue
  pub planned : IsPlanned names (intake_at moments.before) (intake_at moments.after) plan
  pub last : Option RecordDisk
  pub loaded : IsLoadOver (planned_load (starting plan load.start) load) (scenes_of load last moments) status
  pub let_go : IsRecordLetGo load.record last moments

-- there is a plan, and its load failed
pub record IsLoadUndone (names : List Name) (load : LoadRequest) (moments : Change Moment) (failure : Failure) : Type 0 where
  pub plan : PlanValue
  pub planned : IsPlanned names (intake_at moments.before) (intake_at moments.after) plan
  pub last : Option RecordDisk
  pub failed : IsLoadFailure (planned_load (starting plan load.start) load) (scenes_of load last moments) failure
  pub let_go : IsRecordLetGo load.record last moments

-- their load failed: it has no plan, and of disk and consoles nothing was asked; or it failed on its way
abbrev pub AreUnloaded : List Name → LoadRequest → Change Moment → Failure → Type 0
AreUnloaded names load moments failure = HaveNoPlan names moments failure ⊎ IsLoadUndone names load moments failure
