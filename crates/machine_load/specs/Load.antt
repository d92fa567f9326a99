-- A load: what a record says, what was done on the line, and what was reported.
use Rattle.std.specs.Prelude.{◌≡◌, ◌⊎◌, ◌↔◌, ℕ, Bool, IsTrue, false, ◌&&◌, not, if◌then◌else◌, true, List, [], ◌∷◌, Option, Some, None, Ok}
use Rattle.std.specs.Io.KnownBytes.{Appends, Keeps}
use Rattle.tape_values.specs.Told.{IsAsTold}
use Rattle.tape_image.specs.Plan.{PlanValue}
use Rattle.host_core.specs.declared.phase.End.{End}
use Rattle.host_core.specs.declared.phase.End.TheVariants.{Loaded, MaybeStarted}
use Rattle.host_core.specs.declared.progress.Progress.{Progress}
use Rattle.host_core.specs.Core.{Core, begun_by, ended}
use Rattle.host_devices.specs.Told.{Gains}
use Rattle.engine.specs.declared.stop.Stop.TheVariants.{Ended}
use Rattle.load_record.specs.declared.version.Version.TheVariants.{Second}
use Rattle.load_record.specs.RecordText.{record_text}
use Rattle.load_record.specs.Reading.{Says}
use Rattle.byte_io.specs.Output.{WritesAllBut}
use Rattle.host_devices.specs.Devices.{LineTold}
use Rattle.console_lines.specs.Reached.{IsUnused}
use Rattle.machine_load.specs.Asked.{Change, LoadTask, Opened, opened_as, ◌⇒◌}
use Rattle.machine_load.specs.GivenBack.{IsGivenBack}
use Rattle.machine_load.specs.declared.load_end.LoadEnd.{LoadEnd}
use Rattle.machine_load.specs.declared.load_end.LoadEnd.TheVariants.{Driven}
use Rattle.machine_load.specs.declared.looks.Looks.{Looks}
use Rattle.machine_load.specs.LoadReport.{load_report}
use Rattle.machine_load.specs.Looks.{AreLooks, behind_looks, asks_for_highest, held_up_by}
use Rattle.machine_load.specs.Parts.{Course}
use Rattle.machine_load.specs.Stubs.{counting}
use Rattle.machine_load.specs.declared.stubs.Stubs.{Stubs}
use Rattle.machine_load.specs.RecordDisk.{RecordDisk, DiskAsked, IsBegunOn, IsReadOn, begun_text, old_text}
use Rattle.record_file.specs.OldRecord.{HoldsNoRecord, MayBecome}
use Rattle.record_file.specs.Reading.{OldText}
use Rattle.record_file.specs.declared.old_record.Writable.{Writable}
use Rattle.machine_load.specs.Step.{LoadStep, RecordRead, Connected}
use Rattle.sample_looks.specs.declared.finding.Finding.TheVariants.{AllStand}
use Rattle.request_values.specs.declared.options.LoadOptions.{LoadOptions}

-- what the surroundings of a load tell: what was asked of them, with what was answered; what the record is; the disk on which that is, if on any; and what
-- earlier lives left, where that is known without one
pub record SurroundingsTold : Type 0 where
  pub steps : Option (List LoadStep)
  pub record_text : Option (List ℕ)
  pub disk : Option RecordDisk
  pub left : Option OldText

-- the same, what the lines tell that were given back, and what the load's output holds
pub record Setting : Type 0 where
  pub around : SurroundingsTold
  pub lines : Option (List LineTold)
  pub out : Option (List ℕ)

-- these steps were asked from then on
abbrev pub Asks : SurroundingsTold → SurroundingsTold → List LoadStep → Type 0
Asks before after steps = Gains before.steps after.steps steps

-- the record is as it was
abbrev pub KeepsRecord : SurroundingsTold → SurroundingsTold → Type 0
KeepsRecord before after = Keeps before.record_text after.record_text

-- nobody was asked, and the record is as it was
pub record AsksNothing (before after : SurroundingsTold) : Type 0 where
  pub nothing_asked : Asks before after []
  pub record_same : KeepsRecord before after
  pub disk_same : after.disk ≡ before.disk

-- how many words count as verified: all that the record says; none where each is to be looked at again, unless the start was typed
abbrev pub words_taken : Bool → Progress → ℕ
words_taken recheck said = if recheck && not said.going then 0 else said.verified

-- the record says this progress of the plan
pub record SaysProgress (record_told : Option (List ℕ)) (plan : PlanValue) (said : Progress) : Type 0 where
  pub text : List ℕ
  pub is_record : IsAsTold record_told text
  pub is_ours : HoldsNoRecord text → ⊥
  pub says : Says plan text (Ok said)

-- the life that begins with what the record says of the plan
pub record IsOpening (record_told : Option (List ℕ)) (plan : PlanValue) (options : LoadOptions) (core : Core) : Type 0 where
  pub said : Progress
  pub opened : SaysProgress record_told plan said
  pub core_is : core ≡ begun_by options.careful plan (words_taken options.recheck said) said.going options.patience

-- the record was read, and a life begins with this core; and it is known whether its own record may be begun over what was read
pub record IsOpened (task : LoadTask) (around : Change SurroundingsTold) (first : Core) (may_begin : Bool) : Type 0 where
  pub how : Writable
  pub read_first : Asks around.before around.after (RecordRead how ∷ [])
  pub record_read : KeepsRecord around.before around.after
  pub opening : IsOpening around.before.record_text task.plan task.options first
  -- what says so is what was read on the disk, which was asked for nothing else
  pub read_there : DiskAsked around.before.disk around.after.disk (IsReadOn (old_text opening.opened.text how))
  pub is_left : IsAsTold around.before.left (old_text opening.opened.text how)
  pub is_known : IsTrue may_begin ↔ MayBecome how opening.opened.text (record_text Second task.plan first.verified false)

-- the life is over before it has begun
pub record IsOverAtOnce (old new : Core) (ended_so : LoadEnd) : Type 0 where
  pub end : End
  pub over : ended old.phase ≡ Some end
  pub end_is : ended_so ≡ Driven (Ended end)
  pub same : new ≡ old

-- so a life ends that is over before it has begun: nothing is left to load, or the start was typed before
abbrev pub IsNeverBegun : LoadEnd → Type 0
IsNeverBegun end = (end ≡ Driven (Ended Loaded)) ⊎ (end ≡ Driven (Ended MaybeStarted))

-- how a life ended: what its looks came to, where it looked, its stubs, where it brought some in, its looks behind them, where it looked again, its host,
-- and what its line tells then, where it had one
pub record Finish : Type 0 where
  pub looks : Option Looks
  pub stubs : Option Stubs
  pub again : Option Looks
  pub core : Core
  pub end : LoadEnd
  pub line : Option LineTold

-- its report
abbrev pub finish_report : Finish → List ℕ
finish_report finish = load_report (counting finish.core finish.looks finish.stubs finish.again) finish.end

-- a record that was begun anew is that of the plan's first k words, where it is told
abbrev pub IsTextBegun : Option (List ℕ) → PlanValue → ℕ → Type 0
IsTextBegun told plan k = IsAsTold told (record_text Second plan k false)

-- a life that was over at once has no line, no looks and no stubs; nobody was asked, and the record is as it was
pub record IsIdleLife (life : Opened) (around : Change SurroundingsTold) (finish : Finish) : Type 0 where
  pub over : IsOverAtOnce life.first finish.core finish.end
  pub left_alone : AsksNothing around.before around.after
  pub no_looks : finish.looks ≡ None
  pub no_stubs : finish.stubs ≡ None
  pub not_again : finish.again ≡ None
  pub no_line : finish.line ≡ None

-- a life that is not over, and whose record may be begun: a connection is made, and on the new line, on which nothing was said, words that the record
-- has are looked at, and the tape's highest by a careful life or a fast one, before anything is done to it
pub record HasLookedFirst (life : Opened) (around : Change SurroundingsTold) (looked_so : Option Looks) : Type 0 where
  pub may_write : life.writable ≡ true
  pub goes_on : ended life.first.phase ≡ None
  pub connected : Asks around.before around.after (Connected ∷ [])
  pub record_same : KeepsRecord around.before around.after
  pub disk_same : around.after.disk ≡ around.before.disk
  pub line : LineTold
  pub fresh : IsUnused line.said line.failures line.fault
  pub looks : Looks
  pub looks_are : looked_so ≡ Some looks
  pub behind : LineTold
  pub looked : AreLooks life.first (asks_for_highest life) looks line behind

-- its looks do not let it go on: one of the samples does not stand, or they stopped before each word was read. Nothing is done behind them, and the record
-- is as it was
pub record IsHeldUp (life : Opened) (around : Change SurroundingsTold) (finish : Finish) : Type 0 where
  pub first_looks : HasLookedFirst life around finish.looks
  pub held_up : held_up_by first_looks.looks ≡ Some finish.end
  pub core_is : finish.core ≡ behind_looks life.first first_looks.looks
  pub no_stubs : finish.stubs ≡ None
  pub not_again : finish.again ≡ None
  pub has_line : finish.line ≡ Some first_looks.behind

-- a life that goes on: its host, whether stubs are asked for, and what its line tells
pub record Going : Type 0 where
  pub first : Core
  pub fast : Bool
  pub line : LineTold

abbrev pub going_on : Core → Bool → LineTold → Going
going_on first fast line = record { first = first; fast = fast; line = line }

-- the record of a life that goes on was begun on its disk, with the words of the plan that count as verified, and nothing else was asked there
abbrev pub IsBegunThere : Core → SurroundingsTold → SurroundingsTold → Type 0
IsBegunThere first before after = DiskAsked before.disk after.disk (IsBegunOn (begun_text first.plan first.verified))

-- the course that it takes
abbrev pub course_of : Core → Finish → Course
course_of first finish = record { first = first; stubs = finish.stubs; again = finish.again; core = finish.core; end = finish.end }

-- how a life goes on behind its looks, as it is said of keepers of a type
abbrev pub HowItGoesOn : Type 1
HowItGoesOn = Going → Change SurroundingsTold → Finish → Type 0

-- so does a life whose words all stood that it looked at: with the patience that its looks left
pub record IsBusyLife (GoesSo : HowItGoesOn) (life : Opened) (around : Change SurroundingsTold) (finish : Finish) : Type 0 where
  pub between : SurroundingsTold
  pub first_looks : HasLookedFirst life (around.before ⇒ between) finish.looks
  pub all_stand : first_looks.looks.finding ≡ AllStand
  pub driven : GoesSo (going_on (behind_looks life.first first_looks.looks) life.fast first_looks.behind) (between ⇒ around.after) finish

-- a life, once it has opened, over its line where it has one
abbrev pub IsLived : HowItGoesOn → Opened → Change SurroundingsTold → Finish → Type 0
IsLived GoesSo life around finish = IsIdleLife life around finish ⊎ (IsHeldUp life around finish ⊎ IsBusyLife GoesSo life around finish)

-- a load: first the record is read, which says with which core the life begins, and whether that one's record may be begun over it; then the
-- life, from there on
pub record IsLoad (GoesSo : HowItGoesOn) (task : LoadTask) (around : Change SurroundingsTold) (finish : Finish) : Type 0 where
  pub first : Core
  pub writable : Bool
  pub between : SurroundingsTold
  pub opened : IsOpened task (around.before ⇒ between) first writable
  pub life : IsLived GoesSo (opened_as first task.options.fast writable) (between ⇒ around.after) finish

-- what a load gives back that was reported: how it ended, whether the host had come to the start, and what the line tells, where there is one
pub record Ending : Type 0 where
  pub end : LoadEnd
  pub marked : Bool
  pub line : Option LineTold

-- a load that was reported: the report is of the host that the life ended with, and counts what its looks and its stubs sent and met, too; its line was
-- not given back yet
pub record IsReported (GoesSo : HowItGoesOn) (task : LoadTask) (setting : Change Setting) (ending : Ending) : Type 0 where
  pub looks : Option Looks
  pub stubs : Option Stubs
  pub again : Option Looks
  pub last : Core
  pub load : IsLoad GoesSo task (setting.before.around ⇒ setting.after.around)
      (record { looks = looks; stubs = stubs; again = again; core = last; end = ending.end; line = ending.line })
  pub marked_is : ending.marked ≡ last.going
  pub reported : Appends setting.before.out setting.after.out (load_report (counting last looks stubs again) ending.end)
  pub line_kept : setting.after.lines ≡ setting.before.lines

-- a load whose report could not be written whole: its life was lived all the same, which came to the start or did not, and its line given back as that
-- left it
pub record IsReportCutShort (GoesSo : HowItGoesOn) (task : LoadTask) (setting : Change Setting) (marked : Bool) : Type 0 where
  pub finish : Finish
  pub load : IsLoad GoesSo task (setting.before.around ⇒ setting.after.around) finish
  pub marked_is : marked ≡ finish.core.going
  pub given_back : IsGivenBack setting.before.lines setting.after.lines finish.line
  pub missing : List ℕ
  pub reported : WritesAllBut setting.before.out setting.after.out (finish_report finish) missing
