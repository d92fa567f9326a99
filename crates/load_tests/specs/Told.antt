-- What a line in memory tells, and a record and a tape of which the disk tells what it was asked.
use Rattle.std.specs.Prelude.{◌≡◌, ◌⊎◌, ℕ, List, [], ◌++◌, Option, Some, None, Vec, option_map}
use Rattle.machine_load.specs.Driving.{IsDrivenOn, on_disk}
use Rattle.machine_load.specs.declared.fault.LoadFault.{LoadFault}
use Rattle.machine_load.specs.Load.{Ending, IsReported, Setting}
use Rattle.machine_load.specs.LoadFault.{IsLoadFault}
use Rattle.honest_line.specs.LineTable.{LineValue}
use Rattle.host_devices.specs.declared.line.Line.{Ghosts as Line}
use Rattle.machine_load.specs.Asked.{Change, LoadTask, ◌⇒◌}
use Rattle.machine_load.specs.RecordDisk.{RecordDisk, IsClosedBehind}
use Rattle.machine_look.specs.declared.saving.SaveOptions.{SaveOptions}
use Rattle.machine_look.specs.Save.{TakesUp}
use Rattle.tape_shelf.specs.SavedSteps.{adds, full, puts}
use Rattle.tape_shelf.specs.Shelf.{ShelfStep}
use Rattle.tape_shelf.specs.ShelfDisk.{Room}
use Rattle.tape_shelf.specs.ShelfTold.{HasDone, ShelfTold}
use Rattle.record_file.specs.DiskStep.{DiskStep}
use Rattle.record_file.specs.Known.{known_of}
use Rattle.record_file.specs.declared.held_file.HeldFile.{HeldFile}
use Rattle.told_calls.specs.declared.told_file.ToldFile.{ToldFile}
use Rattle.told_calls.specs.declared.told_step.ToldStep.{ToldStep}
use Rattle.told_calls.specs.ToldSteps.{steps_of, written_to}

-- what a line in memory tells
abbrev pub memory_line : Line LineValue
memory_line = record { told = λ line. Some line.items; fault_count = λ line. line.failures; last_fault = λ line. line.fault }

-- a record of this name on a disk of which no file's text is known, and its file, where it is held
abbrev pub record_told : {A : Type 0} → Option (Vec ToldStep A) → List ℕ → Option (HeldFile ToldFile) → RecordDisk
record_told asked name held = record { asked = steps_of asked; name = name; known = option_map (known_of written_to) held; holds = None }

-- a setting with this record, and this output
abbrev pub disk_told : RecordDisk → Option (List ℕ) → Setting
disk_told disk out = record { around = record { steps = None; record_text = None; disk = Some disk; left = None }; lines = None; out = out }

-- a load was reported, and ended so; its record is kept in a file
abbrev pub IsReportedSo : LoadTask → Ending → Change Setting → Type 0
IsReportedSo task ending setting = IsReported (IsDrivenOn on_disk) task setting ending

-- or it came to nothing, for this reason
abbrev pub IsFaultSo : LoadTask → LoadFault → Change Setting → Type 0
IsFaultSo task why setting = IsLoadFault (IsDrivenOn on_disk) task setting why

-- this is so of a load from this record to another, over this output, and then the record was closed
abbrev pub IsSoAndClosed : (Change Setting → Type 0) → RecordDisk → Change (Option (List ℕ)) → Option (List DiskStep) → Type 0
IsSoAndClosed so first out asked =
    (last : RecordDisk) × so (disk_told first out.before ⇒ disk_told last out.after) × IsClosedBehind last asked

-- a shelf on a disk of which no file's text is known, for a tape of this name, and its room
abbrev pub shelf_told : Option (List DiskStep) → List ℕ → Option Room → ShelfTold
shelf_told asked name room = record { steps = None; disk = Some (record { asked = asked; name = name; room = room }); left = None }

-- with this a tape of numbers is put on a shelf, or its full blocks alone, or nothing
abbrev pub AreStepsOf : SaveOptions → List ℕ → List ShelfStep → Type 0
AreStepsOf options numbers steps =
    (steps ≡ []) ⊎ (steps ≡ adds options.range.from numbers (full numbers)) ⊎ (steps ≡ puts options.range.from numbers options.start)

-- a shelf was taken up, and the tape of what was found and read put there, or its full blocks alone, or nothing
abbrev pub IsTapePut : SaveOptions → ShelfTold → ShelfTold → Type 0
IsTapePut options shelf shelf' =
    (found numbers : List ℕ) × (taking : List ShelfStep) × TakesUp options.range shelf.left found taking
    × (steps : List ShelfStep) × AreStepsOf options (found ++ numbers) steps × HasDone (taking ++ steps) shelf shelf'

-- or it came to nothing, whatever was done there
abbrev pub IsTapeNotPut : ShelfTold → ShelfTold → Type 0
IsTapeNotPut shelf shelf' = (steps : List ShelfStep) × HasDone steps shelf shelf'
