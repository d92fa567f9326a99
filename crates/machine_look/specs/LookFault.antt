-- How a look comes to nothing, and what was done before (this project's own).
use Rattle.std.specs.Prelude.{◌≡◌, ◌⊎◌, ℕ, ◌<◌, List, [], ◌∷◌, ◌++◌, None, Option}
use Rattle.std.specs.Io.KnownBytes.{Keeps}
use Rattle.tape_image.specs.Plan.{PlanValue}
use Rattle.tape_image.specs.Word.{WordValue}
use Rattle.console_lines.specs.Dialling.{IsAskedInVain}
use Rattle.reading_core.specs.Reader.{Reader, ended}
use Rattle.request_values.specs.Change.{Change, ◌⇒◌}
use Rattle.request_values.specs.declared.range.AddressRange.{AddressRange}
use Rattle.machine_look.specs.declared.look_fault.LookFault.{LookFault}
use Rattle.machine_look.specs.declared.look_fault.LookFault.TheVariants.{IsThere, PartIsThere, NotOfSave, WriteTape, Connect, WriteOutput, Memory}
use Rattle.machine_look.specs.declared.saving.SaveOptions.{SaveOptions}
use Rattle.tape_shelf.specs.declared.shelf.ShelfFault.{ShelfFault}
use Rattle.tape_shelf.specs.declared.shelf.ShelfFault.TheVariants as shelf_fault
use Rattle.console_lines.specs.Console.{ConsoleTold}
use Rattle.machine_look.specs.Behind.{IsRead, Saving}
use Rattle.machine_look.specs.Save.{IsUnadded, IsUnput, IsSavedUnreported, SaveAt, SaveTold, TakesUp}
use Rattle.tape_shelf.specs.FoundPart.{IsRefusedPart}
use Rattle.tape_shelf.specs.SavedSteps.{full, not_all_added}
use Rattle.tape_shelf.specs.SavedTape.{room_for}
use Rattle.tape_shelf.specs.Shelf.{ShelfStep, NotReserved, NotResumed, NotPut}
use Rattle.tape_shelf.specs.ShelfAt.{HasDoneThere, ShelfAt}
use Rattle.tape_shelf.specs.ShelfTold.{HasDone}
use Rattle.machine_look.specs.Verify.{IsComparisonCutShort, verifier}
use Rattle.machine_look.specs.declared.verifying.VerifyOptions.{VerifyOptions}

-- what a place that takes no tape makes of the save
abbrev pub fault_of_shelf : ShelfFault → LookFault
fault_of_shelf shelf_fault.IsThere = IsThere
fault_of_shelf shelf_fault.PartIsThere = PartIsThere
fault_of_shelf shelf_fault.NotOfSave = NotOfSave
fault_of_shelf shelf_fault.Write = WriteTape
fault_of_shelf shelf_fault.Memory = Memory

-- a comparison of words comes to nothing: the console can't be reached before anything is written; or a line can't be written whole, which is
-- the last thing
abbrev pub IsCompareFault : List WordValue → Reader → Change ConsoleTold → LookFault → Type 0
IsCompareFault words first console Connect =
    (ended first.phase ≡ None) × IsAskedInVain console.before.call console.before.asked console.after.asked
    × (console.after.lines ≡ console.before.lines) × Keeps console.before.out console.after.out
IsCompareFault words first console WriteOutput = IsComparisonCutShort words first console
IsCompareFault words first console other = ⊥

-- how `verify` comes to nothing: want of memory before the console is reached, or so
abbrev pub IsVerifyFault : PlanValue → VerifyOptions → Change ConsoleTold → LookFault → Type 0
IsVerifyFault plan options console Memory =
    (console.after.asked ≡ console.before.asked) × (console.after.lines ≡ console.before.lines) × Keeps console.before.out console.after.out
IsVerifyFault plan options console other = IsCompareFault plan.words (verifier plan options) console other

-- the shelf could not be taken up: there is no room, or what an earlier save left, this text, can't be gone on with
pub data TakesUpNothing (range : AddressRange) (left : Option (List ℕ)) (fault : ShelfFault) : List ShelfStep → Type 0 where
  NoRoom : TakesUpNothing range left fault (NotReserved (room_for range) fault ∷ [])
  NoPart : IsRefusedPart range left fault → TakesUpNothing range left fault (NotReserved (room_for range) shelf_fault.PartIsThere ∷ NotResumed fault ∷ [])

-- so it was, and nothing else was done
pub record IsSaveNotBegun (fault : ShelfFault) (options : SaveOptions) (before after : SaveTold) : Type 0 where
  pub steps : List ShelfStep
  pub refusal : TakesUpNothing options.range before.shelf.left fault steps
  pub refused : HasDone steps before.shelf after.shelf
  pub not_asked : after.asked ≡ before.asked
  pub no_line : after.lines ≡ before.lines
  pub nothing_reported : Keeps before.out after.out

-- the shelf was taken up, and nothing else was done but perhaps to ask for the console
pub record IsTakenUpAlone (options : SaveOptions) (before after : SaveTold) : Type 0 where
  pub found : List ℕ
  pub taking : List ShelfStep
  pub taken_up : TakesUp options.range before.shelf.left found taking
  pub untouched : HasDone taking before.shelf after.shelf
  pub no_line : after.lines ≡ before.lines
  pub nothing_reported : Keeps before.out after.out

-- a reading with blocks comes to nothing: the console can't be reached, and nothing is added; or a block can't be
abbrev pub IsReadFault : Saving → SaveAt → SaveAt → LookFault → Type 0
IsReadFault saving before after Connect =
    (after.shelf.told ≡ before.shelf.told) × IsAskedInVain before.console.call before.console.asked after.console.asked
    × (after.console.lines ≡ before.console.lines)
IsReadFault saving before after WriteTape =
    (looks last : Reader) × IsRead saving (before.console ⇒ after.console) (record { looks = looks; last = last; stop = None })
    × (n : ℕ) × (n < full (saving.found ++ last.values))
    × HasDoneThere (not_all_added saving.options.range.from (saving.found ++ last.values) n) before.shelf after.shelf
IsReadFault saving before after other = ⊥

-- a tape is not closed with this text: it can't have its place
abbrev pub IsKeepFault : List ℕ → ShelfAt → ShelfAt → LookFault → Type 0
IsKeepFault text before after IsThere = HasDoneThere (NotPut text shelf_fault.IsThere ∷ []) before after
IsKeepFault text before after WriteTape = HasDoneThere (NotPut text shelf_fault.Write ∷ []) before after
IsKeepFault text before after other = ⊥

-- how `save` comes to nothing: a file that is there or can't be made before the console is reached, want of memory before, too, a console that
-- can't be reached, a block that can't be added or a tape that can't have its place with nothing reported, a report that can't be written whole
-- last
abbrev pub IsSaveFault : SaveOptions → SaveTold → SaveTold → LookFault → Type 0
IsSaveFault options before after IsThere = IsSaveNotBegun shelf_fault.IsThere options before after ⊎ IsUnput shelf_fault.IsThere options before after
IsSaveFault options before after PartIsThere = IsSaveNotBegun shelf_fault.PartIsThere options before after
IsSaveFault options before after NotOfSave = IsSaveNotBegun shelf_fault.NotOfSave options before after
IsSaveFault options before after WriteTape =
    IsSaveNotBegun shelf_fault.Write options before after ⊎ (IsUnadded options before after ⊎ IsUnput shelf_fault.Write options before after)
IsSaveFault options before after Connect = IsTakenUpAlone options before after × IsAskedInVain before.call before.asked after.asked
IsSaveFault options before after WriteOutput = IsSavedUnreported options before after
IsSaveFault options before after Memory =
    IsSaveNotBegun shelf_fault.Memory options before after ⊎ (IsTakenUpAlone options before after × (after.asked ≡ before.asked))
