-- What becomes of a save, by what is said of its shelf.
use Rattle.std.proofs.Common.{◌≡◌, ℕ, List, Option, None, Some, Result, Ok, Err, IfOk, IfErr, inr}
use Rattle.record_file.specs.DiskStep.{DiskStep}
use Rattle.machine_look.specs.Save.{IsSavedAndReported, SaveTold}
use Rattle.tape_shelf.specs.ShelfDisk.{Room, part_name}
use Rattle.tape_shelf.specs.ShelfTold.{ShelfTold}
use Rattle.machine_look.specs.declared.save_end.SaveEnd.{SaveEnd}
use Rattle.endings.specs.declared.failure.Failure.{Failure}
use Rattle.endings.specs.declared.status.Status.{Status}
use Rattle.input_files.specs.Opening.{Name}
use Rattle.request_values.specs.Change.{Change}
use Rattle.request_values.specs.declared.machine.Save.{Save}
use Rattle.requests.specs.Ending.{IsSaveEndFailure, IsSaveEndStatus}
use Rattle.requests.specs.Saving.{IsSaveFailure, IsSaveOver, new_shelf, options_of}

-- a shelf on a disk
abbrev pub shelf_on : Option (List DiskStep) → List ℕ → Option Room → Option (List ℕ) → ShelfTold
shelf_on asked name room left = record { steps = None; disk = Some (record { asked = asked; name = name; room = room }); left = left }

pub new_is : (name : Name) (asked asked' : Option (List DiskStep)) (name' : List ℕ) (room : Option Room) (left left' : Option (List ℕ)) → asked' ≡ asked → name' ≡ name.now → room ≡ None
    → left' ≡ left → shelf_on asked' name' room left' ≡ new_shelf name asked left
new_is name asked asked' name' room left left' p q r l = λ i. record { steps = None; disk = Some (record { asked = p i; name = q i; room = r i }); left = l i }

-- what was left beside a tape's file is on the same disk
pub same_left : {D : Type 0} (holds : D → List ℕ → Option (List ℕ)) (disk disk' : D) (name name' : List ℕ) → disk ≡ disk' → name ≡ name' → holds disk (part_name name) ≡ holds disk' (part_name name')
same_left holds disk disk' name name' p q = λ i. holds (p i) (part_name (q i))

module _ (save : Save) (told : Change SaveTold) (end : SaveEnd) (reported : IsSavedAndReported (options_of save) told.before told.after end) where
  pub saved : (result : Result Status Failure) → IfOk result (IsSaveEndStatus end) → IfOk result (IsSaveOver save told)
  saved (Ok status) is = (end, reported, is)
  saved (Err failure) is = tt

  pub unsaved : (result : Result Status Failure) → IfErr result (IsSaveEndFailure end save.file.now) → IfErr result (IsSaveFailure save told)
  unsaved (Ok status) is = tt
  unsaved (Err failure) is = inr (end, reported, is)
