-- What a shelf tells of the steps that were done on it, and what each of them asks of its disk.
use Rattle.std.specs.Prelude.{◌≡◌, ℕ, true, false, List, [], ◌∷◌, Option, Some, None}
use Rattle.host_devices.specs.Told.{Gains}
use Rattle.record_file.specs.DiskStep.{DiskStep}
use Rattle.request_values.specs.Change.{Change}
use Rattle.tape_shelf.specs.Shelf.{ShelfStep, Reserve, NotReserved, Resume, NotResumed, Add, NotAdded, Put, NotPut}
use Rattle.tape_shelf.specs.ShelfDisk.{ShelfDisk, ShelfAsked, HasRoom, HasPart, InFolder, IsAdding, IsNotReserved, IsPut, IsUntaken, part_name}

-- what was asked of it so far, in its order; the disk on which its tape goes, if on any; and the text that an earlier save left there. Each is None
-- where its type doesn't tell
pub record ShelfTold : Type 0 where
  pub steps : Option (List ShelfStep)
  pub disk : Option ShelfDisk
  pub left : Option (List ℕ)

-- a shelf that tells nothing
abbrev pub untold_shelf : ShelfTold
untold_shelf = record { steps = None; disk = None; left = None }

-- what a step asks of the disk, where the folder of the tape has this name, and what comes of the room there
abbrev pub AsksFor : List ℕ → ShelfStep → Change ShelfDisk → List DiskStep → Type 0
AsksFor folder (Reserve length) disk steps = HasRoom folder length disk steps
AsksFor folder (NotReserved length fault) disk steps = IsNotReserved disk.before.name fault steps × (disk.after.room ≡ disk.before.room)
AsksFor folder (Resume numbers) disk steps = HasPart folder numbers disk steps
AsksFor folder (NotResumed fault) disk steps = InFolder disk.before.name (IsUntaken (part_name disk.before.name)) fault steps × (disk.after.room ≡ disk.before.room)
AsksFor folder (Add text) disk steps = IsAdding text true disk.before.room disk.after.room steps
AsksFor folder (NotAdded text) disk steps = IsAdding text false disk.before.room disk.after.room steps
AsksFor folder (Put text) disk steps =
    IsPut (record { folder = folder; name = disk.before.name }) text disk.before.room None steps × (disk.after.room ≡ None)
AsksFor folder (NotPut text fault) disk steps =
    IsPut (record { folder = folder; name = disk.before.name }) text disk.before.room (Some fault) steps × (disk.after.room ≡ None)

-- a step was done on a shelf
abbrev pub IsDone : List ℕ → ShelfStep → ShelfTold → ShelfTold → Type 0
IsDone folder step before after = Gains before.steps after.steps (step ∷ []) × ShelfAsked before.disk after.disk (AsksFor folder step)

-- steps were done on it, one after another
abbrev pub AreDone : List ℕ → List ShelfStep → ShelfTold → ShelfTold → Type 0
AreDone folder [] before after = after ≡ before
AreDone folder (step ∷ more) before after = (between : ShelfTold) × IsDone folder step before between × AreDone folder more between after

-- they were done in one folder
abbrev pub HasDone : List ShelfStep → ShelfTold → ShelfTold → Type 0
HasDone steps before after = (folder : List ℕ) × AreDone folder steps before after
