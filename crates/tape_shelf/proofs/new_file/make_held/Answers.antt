use Rattle.std.proofs.Common.{false, refl, true}
use Rattle.host_devices.proofs.Told.{tells_join}
use Rattle.record_file.proofs.Asking.{asked_one}
use Rattle.tape_shelf.specs.ShelfDisk.{NotMade, WasLeft}
use Rattle.tape_shelf.proofs.OnShelf.{still}
use Rattle.tape_shelf.proofs.new_file.make_held.Goals as goal

pub returns-then-hold-clause-fresh : goal.returns-then-hold-clause-fresh
returns-then-hold-clause-fresh g c = still _ _ _ _ (c.if-hold.ensures.asked _ c.in-Ok.ensures.opened) c.in-Ok.ensures.fresh

pub returns-then-hold-clause-asked : goal.returns-then-hold-clause-asked
returns-then-hold-clause-asked g c = asked_one _ _ _ (tells_join _ _ _ _ _ c.in-Ok.ensures.asked (c.if-hold.ensures.asked _ c.in-Ok.ensures.opened)) refl

pub returns-else-hold-clause-failed : goal.returns-else-hold-clause-failed
returns-else-hold-clause-failed g c =
    asked_one _ _ _ (tells_join _ _ _ _ _ c.in-Ok.ensures.asked (c.if-hold.ensures.asked _ c.in-Ok.ensures.opened)) (NotMade true _ ((λ held. (refl, tt)), refl))

pub returns-in-Err-clause-failed : goal.returns-in-Err-clause-failed
returns-in-Err-clause-failed g c = asked_one _ _ _ c.in-Err.ensures.asked WasLeft

pub returns-in-Err-2-clause-failed : goal.returns-in-Err-2-clause-failed
returns-in-Err-2-clause-failed g c = asked_one _ _ _ c.in-Err-2.ensures.asked (NotMade false _ ((λ held. tt), refl))
