-- How a load comes to nothing, and what was done before.
use Rattle.std.specs.Prelude.{◌≡◌, ◌⊎◌, ℕ, Bool, true, false, List, [], ◌∷◌, Option, Err}
use Rattle.std.specs.Io.KnownBytes.{Keeps}
use Rattle.tape_values.specs.Told.{IsAsTold}
use Rattle.tape_image.specs.Plan.{PlanValue}
use Rattle.load_record.specs.declared.reader.RecordError.{RecordError}
use Rattle.load_record.specs.Reading.{Says}
use Rattle.load_record.specs.declared.reader.RecordError.TheVariants.{NotARecord}
use Rattle.host_devices.specs.Devices.{LineTold}
use Rattle.machine_load.specs.Asked.{Change, LoadTask, Opened, opened_as, ◌⇒◌}
use Rattle.machine_load.specs.GivenBack.{GivesLooked}
use Rattle.host_core.specs.Core.{Core}
use Rattle.machine_load.specs.Load.{HowItGoesOn, SurroundingsTold, Setting, Asks, KeepsRecord, IsReportCutShort, IsOpened}
use Rattle.machine_load.specs.RecordDisk.{DiskAsked, IsNotBegunOn, IsNotReadOn, IsReadOn, begun_text, old_text}
use Rattle.record_file.specs.OldRecord.{HoldsNoRecord}
use Rattle.record_file.specs.Reading.{OldText}
use Rattle.record_file.specs.declared.old_record.Writable.TheVariants.{InPlace}
use Rattle.machine_load.specs.Step.{LoadStep, RecordRead, Connected, InUse, NotRead, NotConnected, NotBegun, OutOfMemory}
use Rattle.machine_load.specs.declared.fault.LoadFault.{LoadFault}
use Rattle.machine_load.specs.declared.fault.LoadFault.TheVariants.{ReadRecord, RecordInUse, Record, Connect, WriteRecord, WriteOutput, Memory}
use Rattle.record_file.specs.declared.record_fault.RecordFault.{RecordFault}
use Rattle.record_file.specs.declared.record_fault.RecordFault.TheVariants as record_fault

-- a record's text says no progress of the plan, for this reason, or was never a record
abbrev pub IsRefused : PlanValue → List ℕ → RecordError → Type 0
IsRefused plan text why = Says plan text (Err why) ⊎ ((why ≡ NotARecord) × HoldsNoRecord text)

-- the record was read: it is this, and that is what was read on its disk, which was asked for nothing else
pub record IsTextRead (before after : SurroundingsTold) (found : OldText) : Type 0 where
  pub read : Asks before after (RecordRead found.writable ∷ [])
  pub is_record : IsAsTold before.record_text found.text
  pub is_left : IsAsTold before.left found
  pub read_there : DiskAsked before.disk after.disk (IsReadOn found)

-- it was not, for this reason
pub record IsTextNotRead (before after : SurroundingsTold) (why : LoadStep) : Type 0 where
  pub asked : Asks before after (why ∷ [])
  pub not_read_there : DiskAsked before.disk after.disk IsNotReadOn

-- what a record that failed makes of the load
abbrev pub fault_of_record : RecordFault → LoadFault
fault_of_record record_fault.Read = ReadRecord
fault_of_record record_fault.InUse = RecordInUse
fault_of_record record_fault.Write = WriteRecord
fault_of_record record_fault.Memory = Memory

-- how a life fails to open: its record can't be read, or is another load's at the time, or is read and refused; or memory is wanting, also
-- to compare what was read with the record that would be written over it
abbrev pub IsOpeningFault : PlanValue → SurroundingsTold → SurroundingsTold → LoadFault → Type 0
IsOpeningFault plan before after ReadRecord = IsTextNotRead before after NotRead
IsOpeningFault plan before after RecordInUse = IsTextNotRead before after InUse
IsOpeningFault plan before after (Record why) = (found : OldText) × IsTextRead before after found × IsRefused plan found.text why
IsOpeningFault plan before after Memory =
    IsTextNotRead before after OutOfMemory ⊎ ((text : List ℕ) × IsTextRead before after (old_text text InPlace))
IsOpeningFault plan before after other = ⊥

-- what surroundings tell at a moment, and the lines that were given back by then
pub record Gone : Type 0 where
  pub around : SurroundingsTold
  pub lines : Option (List LineTold)

abbrev pub gone : SurroundingsTold → Option (List LineTold) → Gone
gone around lines = record { around = around; lines = lines }

-- so far was gone with an opened life: these steps were asked, no line was given back, and the record is as it was, on its disk, too
pub record IsUnconnected (done : Change Gone) (steps : List LoadStep) : Type 0 where
  pub asked : Asks done.before.around done.after.around steps
  pub record_same : KeepsRecord done.before.around done.after.around
  pub disk_same : done.after.around.disk ≡ done.before.around.disk
  pub no_line : done.after.lines ≡ done.before.lines

-- or there was a connection, a line was given back on which nothing was said but the looks, and the record was not begun with the words that count as
-- verified: the last step says why
pub record IsLeftUnbegun (life : Opened) (done : Change Gone) (why : LoadStep) : Type 0 where
  pub asked : Asks done.before.around done.after.around (Connected ∷ why ∷ [])
  pub not_begun_there : DiskAsked done.before.around.disk done.after.around.disk (IsNotBegunOn (begun_text life.first.plan life.first.verified))
  pub looked : GivesLooked life done.before.lines done.after.lines

-- how an opened life comes to no beginning: one whose record may not be begun fails before there is a connection, and so does one for whose looks
-- there is no memory
abbrev pub IsBeginningFault : Opened → Change Gone → LoadFault → Type 0
IsBeginningFault life done Connect = (life.writable ≡ true) × IsUnconnected done (NotConnected ∷ [])
IsBeginningFault life done WriteRecord =
    ((life.writable ≡ false) × IsUnconnected done []) ⊎ ((life.writable ≡ true) × IsLeftUnbegun life done NotBegun)
IsBeginningFault life done Memory =
    ((life.writable ≡ true) × IsUnconnected done []) ⊎ ((life.writable ≡ true) × IsLeftUnbegun life done OutOfMemory)
IsBeginningFault life done other = ⊥

-- a life was opened, whose record may be begun or may not, and so it came to no beginning, with nothing reported
pub record StopsOpened (task : LoadTask) (setting : Change Setting) (why : LoadFault) : Type 0 where
  pub first : Core
  pub may_begin : Bool
  pub between : SurroundingsTold
  pub opened : IsOpened task (setting.before.around ⇒ between) first may_begin
  pub is_so :
      IsBeginningFault (opened_as first task.options.fast may_begin) (gone between setting.before.lines ⇒ gone setting.after.around setting.after.lines) why
  pub nothing_reported : Keeps setting.before.out setting.after.out

-- no life was opened, with nothing said and nothing reported, and with the record as it was
pub record StopsUnopened (task : LoadTask) (setting : Change Setting) (why : LoadFault) : Type 0 where
  pub is_so : IsOpeningFault task.plan setting.before.around setting.after.around why
  pub record_same : KeepsRecord setting.before.around setting.after.around
  pub nothing_said : setting.after.lines ≡ setting.before.lines
  pub nothing_reported : Keeps setting.before.out setting.after.out

-- how a load comes to nothing: no life is opened, or one comes to no beginning, and nothing is reported; a report that can't be written is the last
-- thing, behind a life that went on so
abbrev pub IsLoadFault : HowItGoesOn → LoadTask → Change Setting → LoadFault → Type 0
IsLoadFault GoesSo task setting (WriteOutput marked) = IsReportCutShort GoesSo task setting marked
IsLoadFault GoesSo task setting why = StopsUnopened task setting why ⊎ StopsOpened task setting why
