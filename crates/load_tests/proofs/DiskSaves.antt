-- What a save asks of its shelf, whatever becomes of it.
use Rattle.std.proofs.Common.{◌≡◌, ℕ, List, [], ◌++◌, Result, Ok, Err, IfErr, IfOk, OnErr, OnOk, inl, inr, refl, subst, sym, append-nil}
use Rattle.std.specs.Prelude.{◌⊎◌}
use Rattle.machine_look.specs.declared.look_fault.LookFault.{LookFault}
use Rattle.machine_look.specs.declared.look_fault.LookFault.TheVariants.{IsThere, PartIsThere, NotOfSave, WriteTape, Connect, WriteOutput, Memory}
use Rattle.machine_look.specs.declared.save_end.SaveEnd.{SaveEnd}
use Rattle.machine_look.specs.declared.save_report.SaveCounts.{SaveCounts}
use Rattle.machine_look.specs.declared.saving.SaveOptions.{SaveOptions}
use Rattle.tape_shelf.specs.declared.shelf.ShelfFault.{ShelfFault}
use Rattle.tape_shelf.specs.declared.shelf.ShelfFault.TheVariants as shelf_fault
use Rattle.machine_look.specs.LookFault.{IsSaveFault, IsSaveNotBegun}
use Rattle.load_tests.specs.Told.{AreStepsOf}
use Rattle.machine_look.specs.Save.{HeldUp, IsOver, IsSavedAndReported, IsUnadded, IsUnput, LeftInPart, SaveTold, Shelved, TakesUp, numbers_of}
use Rattle.tape_shelf.specs.SavedSteps.{adds, full, not_all_added, not_put, puts}
use Rattle.tape_shelf.specs.Shelf.{ShelfStep}
use Rattle.tape_shelf.specs.ShelfTold.{HasDone}

-- the shelf was taken up, and then nothing, the full blocks or all of the tape was put there
abbrev IsDone : SaveOptions → SaveTold → SaveTold → Type 0
IsDone options before after =
    (found numbers : List ℕ) × (taking : List ShelfStep) × TakesUp options.range before.shelf.left found taking
    × (steps : List ShelfStep) × AreStepsOf options (found ++ numbers) steps × HasDone (taking ++ steps) before.shelf after.shelf

over : (options : SaveOptions) (before after : SaveTold) (counts : SaveCounts) (end : SaveEnd) → IsOver options before after counts end → IsDone options before after
over options before after _ _ (Shelved s) = (s.read.found, s.read.last.values, s.read.taking, s.read.taken_up, puts options.range.from (numbers_of s.read) options.start, inr (inr refl), s.is_put)
over options before after _ _ (LeftInPart s) =
    (s.read.found, s.read.last.values, s.read.taking, s.read.taken_up, adds options.range.from (numbers_of s.read) (full (numbers_of s.read)), inr (inl refl), s.is_left)
over options before after _ _ (HeldUp h) =
    (h.found, [], h.taking, h.taken_up, [], inl refl, subst (λ steps. HasDone steps before.shelf after.shelf) (sym (append-nil h.taking)) h.untouched)

pub saved : (result : Result SaveEnd LookFault) (options : SaveOptions) (before after : SaveTold) → IfOk result (IsSavedAndReported options before after)
    → OnOk result (IsDone options before after)
saved (Ok end) options before after h = over options before after h.counts end h.over
saved (Err fault) options before after h = tt

not_begun : (fault : ShelfFault) (options : SaveOptions) (before after : SaveTold) → IsSaveNotBegun fault options before after
    → (steps : List ShelfStep) × HasDone steps before.shelf after.shelf
not_begun fault options before after h = (h.steps, h.refused)

unput : (fault : ShelfFault) (options : SaveOptions) (before after : SaveTold) → IsUnput fault options before after
    → (steps : List ShelfStep) × HasDone steps before.shelf after.shelf
unput fault options before after h = (h.read.taking ++ not_put options.range.from (numbers_of h.read) options.start fault, h.refused)

unadded : (options : SaveOptions) (before after : SaveTold) → IsUnadded options before after → (steps : List ShelfStep) × HasDone steps before.shelf after.shelf
unadded options before after h = (h.read.taking ++ not_all_added options.range.from (numbers_of h.read) h.number, h.refused)

cut_short : (options : SaveOptions) (before after : SaveTold) → IsDone options before after → (steps : List ShelfStep) × HasDone steps before.shelf after.shelf
cut_short options before after h = (h.2 ++ h.4, h.6)

in_vain : (fault : LookFault) (options : SaveOptions) (before after : SaveTold) → IsSaveFault options before after fault → (steps : List ShelfStep) × HasDone steps before.shelf after.shelf
in_vain IsThere options before after (inl h) = not_begun shelf_fault.IsThere options before after h
in_vain IsThere options before after (inr h) = unput shelf_fault.IsThere options before after h
in_vain PartIsThere options before after h = not_begun shelf_fault.PartIsThere options before after h
in_vain NotOfSave options before after h = not_begun shelf_fault.NotOfSave options before after h
in_vain WriteTape options before after (inl h) = not_begun shelf_fault.Write options before after h
in_vain WriteTape options before after (inr (inl h)) = unadded options before after h
in_vain WriteTape options before after (inr (inr h)) = unput shelf_fault.Write options before after h
in_vain Connect options before after h = (h.0.taking, h.0.untouched)
in_vain WriteOutput options before after h = cut_short options before after (over options before after h.counts h.end h.over)
in_vain Memory options before after (inl h) = not_begun shelf_fault.Memory options before after h
in_vain Memory options before after (inr h) = (h.0.taking, h.0.untouched)

pub not_saved : (result : Result SaveEnd LookFault) (options : SaveOptions) (before after : SaveTold) → IfErr result (IsSaveFault options before after)
    → OnErr result ((steps : List ShelfStep) × HasDone steps before.shelf after.shelf)
not_saved (Ok end) options before after h = tt
not_saved (Err fault) options before after h = in_vain fault options before after h
