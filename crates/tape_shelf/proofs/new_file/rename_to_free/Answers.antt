use Rattle.host_devices.proofs.Told.{tells_join}
use Rattle.record_file.proofs.Asking.{asked_one}
use Rattle.tape_shelf.specs.ShelfDisk.{NotFoundFree}
use Rattle.tape_shelf.proofs.OnShelf.{renamed, not_renamed}
use Rattle.tape_shelf.proofs.new_file.rename_to_free.Goals as goal

pub returns-in-Ok-rename-clause-asked : goal.returns-in-Ok-rename-clause-asked
returns-in-Ok-rename-clause-asked g c = let free = c.in-Ok.ensures.asked in asked_one _ _ _ (tells_join _ _ _ _ _ free.1 c.in-Ok-rename.ensures.asked) (renamed _ _ _ _ free.2)

pub returns-in-Err-rename-clause-asked : goal.returns-in-Err-rename-clause-asked
returns-in-Err-rename-clause-asked g c =
    let free = c.in-Ok.ensures.asked in asked_one _ _ _ (tells_join _ _ _ _ _ free.1 c.in-Err-rename.ensures.asked) (not_renamed _ _ _ _ free.2)

pub returns-in-Err-clause-asked : goal.returns-in-Err-clause-asked
returns-in-Err-clause-asked g c = let search = c.in-Err.ensures.asked in (search.0, search.1, NotFoundFree _ _ search.2)
