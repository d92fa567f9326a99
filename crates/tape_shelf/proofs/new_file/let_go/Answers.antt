use Rattle.host_devices.proofs.Told.{tells_join}
use Rattle.record_file.proofs.Asking.{asked_one}
use Rattle.tape_shelf.specs.ShelfDisk.{HasAnother}
use Rattle.tape_shelf.proofs.OnShelf.{gone}
use Rattle.tape_shelf.proofs.new_file.let_go.Goals as goal

pub returns-then-has_name : goal.returns-then-has_name
returns-then-has_name g c = record { asked = asked_one _ _ _ (tells_join _ _ _ _ _ c.if-has_name.ensures.asked c.remove.ensures.asked) (gone _ _ c.remove.result) }

pub returns-else-has_name : goal.returns-else-has_name
returns-else-has_name g c = record { asked = asked_one _ _ _ c.if-has_name.ensures.asked HasAnother }
