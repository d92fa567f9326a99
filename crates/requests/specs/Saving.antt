-- What becomes of a request to save what a real machine holds.
use Rattle.std.specs.Prelude.{◌⊎◌, ℕ, List, Option, None, Some}
use Rattle.host_devices.specs.Told.{HasAsked}
use Rattle.record_file.specs.DiskStep.{DiskStep}
use Rattle.machine_look.specs.LookFault.{IsSaveFault}
use Rattle.machine_look.specs.Save.{IsSavedAndReported, SaveTold, save_told}
use Rattle.tape_shelf.specs.ShelfDisk.{ShelfDisk, IsClosed, part_name}
use Rattle.tape_shelf.specs.ShelfTold.{ShelfTold}
use Rattle.machine_look.specs.declared.look_fault.LookFault.{LookFault}
use Rattle.machine_look.specs.declared.save_end.SaveEnd.{SaveEnd}
use Rattle.machine_look.specs.declared.saving.SaveOptions.{SaveOptions}
use Rattle.endings.specs.declared.failure.Failure.{Failure}
use Rattle.endings.specs.declared.status.Status.{Status}
use Rattle.requests.specs.Ending.{IsFailureOf, IsSaveEndFailure, IsSaveEndStatus}
use Rattle.requests.specs.declared.request_fault.RequestFault.TheVariants as request_fault
use Rattle.input_files.specs.Opening.{Name}
use Rattle.request_values.specs.Change.{Change, ◌⇒◌}
use Rattle.request_values.specs.declared.machine.Save.{Save}
use Rattle.requests.specs.Moment.{Moment, TakesNoInput, console_at}

-- what is to be saved, and how, as the request has it
abbrev pub options_of : Save → SaveOptions
options_of save = record { range = save.range; start = save.start; patience = save.look.patience; care = save.look.care }

-- a shelf that is new, for a tape of this name, on a disk that tells this, where this text was left; what is done on it the shelf does not tell, but
-- asks of the disk
abbrev pub new_shelf : Name → Option (List DiskStep) → Option (List ℕ) → ShelfTold
new_shelf name asked left = record { steps = None; disk = Some (record { asked = asked; name = name.now; room = None }); left = left }

-- a shelf that is new at a moment: what was left there is what the file beside the tape's holds
abbrev pub shelf_at : Name → Moment → ShelfTold
shelf_at name known = new_shelf name known.asked.outside.disk (known.holds (part_name name.now))

-- what a save is told before it, with a shelf that is new, and behind it, with this shelf
abbrev pub saves_of : Save → ShelfTold → Change Moment → Change SaveTold
saves_of save shelf moments =
    save_told (shelf_at save.file moments.before) (console_at save.look moments.before) ⇒ save_told shelf (console_at save.look moments.after)

-- a shelf was let go, and then its disk tells this
abbrev pub IsLetGo : Option ShelfDisk → Option (List DiskStep) → Type 0
IsLetGo None asked = ⊥
IsLetGo (Some disk) asked = HasAsked disk.asked asked (IsClosed disk.room)

-- memory was read and saved
abbrev pub IsSaveOver : Save → Change SaveTold → Status → Type 0
IsSaveOver save told status = (end : SaveEnd) × IsSavedAndReported (options_of save) told.before told.after end × IsSaveEndStatus end status

-- a save came to nothing
pub record IsSaveInVain (save : Save) (told : Change SaveTold) (failure : Failure) : Type 0 where
  pub fault : LookFault
  pub is_so : IsSaveFault (options_of save) told.before told.after fault
  pub is_called : IsFailureOf (request_fault.Look fault) save.look.line.now save.file.now failure

-- a save failed: it came to nothing, or it was reported, and its line had failed, or memory does not hold what was left beside the file
abbrev pub IsSaveFailure : Save → Change SaveTold → Failure → Type 0
IsSaveFailure save told failure =
    IsSaveInVain save told failure
    ⊎ ((end : SaveEnd) × IsSavedAndReported (options_of save) told.before told.after end × IsSaveEndFailure end save.file.now failure)

-- words were saved in the file that is named, of the console that is named, on a shelf that was new, and was let go; no input was taken
pub record AreWordsSaved (save : Save) (moments : Change Moment) (status : Status) : Type 0 where
  pub shelf : ShelfTold
  pub saved : IsSaveOver save (saves_of save shelf moments) status
  pub let_go : IsLetGo shelf.disk moments.after.asked.outside.disk
  pub no_input : TakesNoInput moments

-- or that failed
pub record AreWordsUnsaved (save : Save) (moments : Change Moment) (failure : Failure) : Type 0 where
  pub shelf : ShelfTold
  pub failed : IsSaveFailure save (saves_of save shelf moments) failure
  pub let_go : IsLetGo shelf.disk moments.after.asked.outside.disk
  pub no_input : TakesNoInput moments
