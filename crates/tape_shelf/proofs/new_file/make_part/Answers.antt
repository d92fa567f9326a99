use Rattle.std.proofs.Common.{◌∙◌, rules}
use Rattle.record_file.proofs.Asking.{asked_one}
use Rattle.tape_shelf.specs.ShelfDisk.{IsUnmade, NoMemory, Opened, Shut}
use Rattle.tape_shelf.proofs.OnShelf.{in_folder, reserved}
use Rattle.tape_shelf.proofs.new_file.make_part.Goals as goal

pub returns-in_default-clause-failed : goal.returns-in_default-clause-failed
returns-in_default-clause-failed g c = asked_one _ _ _ c.in_default.ensures.asked (Shut _ c.folder_of.ensures)

pub returns-in_default-format-clause-failed : goal.returns-in_default-format-clause-failed
returns-in_default-format-clause-failed g c = asked_one _ _ _ c.in-Ok.ensures.asked (Opened _ _ _ c.folder_of.ensures NoMemory)

pub returns-in_default-vec-clause-failed : goal.returns-in_default-vec-clause-failed
returns-in_default-vec-clause-failed g c = asked_one _ _ _ c.in-Ok.ensures.asked (Opened _ _ _ c.folder_of.ensures NoMemory)

pub returns-in-Ok-make_filled-clause-named : goal.returns-in-Ok-make_filled-clause-named
returns-in-Ok-make_filled-clause-named g c = c.in-Ok-format.ensures.ok

pub returns-in-Ok-make_filled-clause-asked : goal.returns-in-Ok-make_filled-clause-asked
returns-in-Ok-make_filled-clause-asked g c =
    (_, c.in-Ok.ensures.opened, c.folder_of.ensures, reserved _ _ _ _ _ _ _ (c.as_str.ensures.value ∙ c.in-Ok-format.ensures.ok) c.in-Ok.ensures.asked (c.in-Ok-make_filled.ensures.made _ c.in-Ok.ensures.opened))

pub returns-in-Err-clause-failed : goal.returns-in-Err-clause-failed
returns-in-Err-clause-failed g c =
    in_folder IsUnmade _ _ _ _ _ _ _ (c.as_str.ensures.value ∙ c.in-Ok-format.ensures.ok) c.folder_of.ensures c.in-Ok.ensures.asked
    (c.in-Err.ensures.not_made _ c.in-Ok.ensures.opened)

pub returns-in-Ok-make_filled-clause-filled : goal.returns-in-Ok-make_filled-clause-filled
returns-in-Ok-make_filled-clause-filled g c =
    let held = c.in-Ok-make_filled.ensures.filled _ c.in-Ok.ensures.opened in
    search (rules, held)
