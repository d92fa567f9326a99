use Rattle.std.proofs.Common.{refl}
use Rattle.host_devices.proofs.Told.{tells_none}
use Rattle.record_file.proofs.Asking.{asked_one}
use Rattle.tape_shelf.specs.ShelfDisk.{Free, There, Unknown, NoFileName}
use Rattle.tape_shelf.proofs.new_file.find_free.Goals as goal

pub returns-then-names_no_file-clause-asked : goal.returns-then-names_no_file-clause-asked
returns-then-names_no_file-clause-asked g c = asked_one _ _ _ (tells_none _) (NoFileName (c.if-names_no_file.ensures.0 refl))

pub returns-in-Ok-clause-asked : goal.returns-in-Ok-clause-asked
returns-in-Ok-clause-asked g c = asked_one _ _ _ c.in-Ok.ensures.asked There

pub returns-in-Err-clause-asked : goal.returns-in-Err-clause-asked
returns-in-Err-clause-asked g c = asked_one _ _ _ c.in-Err.ensures.asked Free

pub returns-in-Err-2-clause-asked : goal.returns-in-Err-2-clause-asked
returns-in-Err-2-clause-asked g c = asked_one _ _ _ c.in-Err-2.ensures.asked Unknown
