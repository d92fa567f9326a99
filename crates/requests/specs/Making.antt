-- What becomes of a request to make a tape of octal words.
use Rattle.std.specs.Prelude.{◌≡◌, ◌⊎◌, ℕ, List, [], ◌∷◌, length, Option}
use Rattle.record_file.specs.DiskStep.{DiskStep}
use Rattle.tape_shelf.specs.Shelf.{NotPut, NotReserved, Put, Reserve}
use Rattle.tape_shelf.specs.ShelfTold.{HasDone, IsDone, ShelfTold}
use Rattle.tape_shelf.specs.declared.shelf.ShelfFault.{ShelfFault}
use Rattle.endings.specs.declared.failure.Failure.{Failure}
use Rattle.endings.specs.declared.status.Status.{Status}
use Rattle.endings.specs.declared.status.Status.TheVariants.{Done}
use Rattle.request_values.specs.Change.{Change}
use Rattle.request_values.specs.declared.request.Make.{Make}
use Rattle.tape_commands.specs.TapeOfWords.{IsTapeMade, IsTapeUnmade}
use Rattle.input_files.specs.Opening.{Name}
use Rattle.requests.specs.Ending.{IsFailureOf}
use Rattle.requests.specs.declared.request_fault.RequestFault.TheVariants as request_fault
use Rattle.requests.specs.Moment.{AsksNobody, AsksNoConsole, Moment, intake_at}
use Rattle.requests.specs.Saving.{IsLetGo, shelf_at}

-- the room of a whole tape could not be taken, or the tape not be put there, for this reason
abbrev pub IsNotPutWhole : List ℕ → ShelfFault → ShelfTold → ShelfTold → Type 0
IsNotPutWhole text fault before after =
    ((folder : List ℕ) → IsDone folder (NotReserved (length text) fault) before after) ⊎ HasDone (Reserve (length text) ∷ NotPut text fault ∷ []) before after

-- a whole tape was put on a shelf that was new, for a file of this name, and that was let go: then its disk tells this
pub record IsPutOn (file : Name) (text : List ℕ) (before : ShelfTold) (asked : Option (List DiskStep)) (status : Status) : Type 0 where
  pub shelf : ShelfTold
  pub put : HasDone (Reserve (length text) ∷ Put text ∷ []) before shelf
  pub let_go : IsLetGo shelf.disk asked
  pub status_is : status ≡ Done

-- or it was not
pub record IsNotPutOn (file : Name) (text : List ℕ) (before : ShelfTold) (asked : Option (List DiskStep)) (failure : Failure) : Type 0 where
  pub shelf : ShelfTold
  pub fault : ShelfFault
  pub not_put : IsNotPutWhole text fault before shelf
  pub let_go : IsLetGo shelf.disk asked
  pub is_called : IsFailureOf (request_fault.Shelf fault) file.now file.now failure

-- a tape was made of the words, and it is the new file, with nothing printed
pub record AreWordsMade (make : Make) (moments : Change Moment) (status : Status) : Type 0 where
  pub text : List ℕ
  pub made : IsTapeMade make (intake_at moments.before) (intake_at moments.after) text
  pub put : IsPutOn make.file text (shelf_at make.file moments.before) moments.after.asked.outside.disk status
  pub no_console : AsksNoConsole moments
  pub nothing_printed : moments.after.held.out ≡ moments.before.held.out

-- one was made, and it could not be put there
pub record IsTapeNotPut (make : Make) (moments : Change Moment) (failure : Failure) : Type 0 where
  pub text : List ℕ
  pub made : IsTapeMade make (intake_at moments.before) (intake_at moments.after) text
  pub not_put : IsNotPutOn make.file text (shelf_at make.file moments.before) moments.after.asked.outside.disk failure
  pub no_console : AsksNoConsole moments
  pub nothing_printed : moments.after.held.out ≡ moments.before.held.out

-- none was made of the words, and nothing was asked of disk and consoles, nor printed
pub record IsNoTapeMade (make : Make) (moments : Change Moment) (failure : Failure) : Type 0 where
  pub unmade : IsTapeUnmade make (intake_at moments.before) (intake_at moments.after) failure
  pub nobody : AsksNobody moments
  pub nothing_printed : moments.after.held.out ≡ moments.before.held.out

-- the words came to nothing
abbrev pub AreWordsUnmade : Make → Change Moment → Failure → Type 0
AreWordsUnmade make moments failure = IsNoTapeMade make moments failure ⊎ IsTapeNotPut make moments failure
