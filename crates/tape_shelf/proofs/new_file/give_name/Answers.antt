use Rattle.record_file.proofs.Asking.{asked_one}
use Rattle.tape_shelf.specs.ShelfDisk.{Linked, LinkRefused}
use Rattle.tape_shelf.proofs.OnShelf.{link_then_rename}
use Rattle.tape_shelf.proofs.new_file.give_name.Goals as goal

pub returns-in-Ok-clause-asked : goal.returns-in-Ok-clause-asked
returns-in-Ok-clause-asked g c = asked_one _ _ _ c.in-Ok.ensures.asked Linked

pub returns-in-Err-clause-asked : goal.returns-in-Err-clause-asked
returns-in-Err-clause-asked g c = asked_one _ _ _ c.in-Err.ensures.asked LinkRefused

pub returns-in-Err-2-clause-asked : goal.returns-in-Err-2-clause-asked
returns-in-Err-2-clause-asked g c = link_then_rename _ _ _ _ _ _ c.in-Err-2.ensures.asked c.rename_to_free.ensures.asked
