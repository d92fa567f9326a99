use Rattle.host_devices.proofs.Told.{tells_join}
use Rattle.record_file.proofs.Asking.{asked_one, tells_failed, tells_done}
use Rattle.std.proofs.Common.{true, false}
use Rattle.tape_shelf.specs.ShelfDisk.{room_of}
use Rattle.tape_shelf.proofs.OnShelf.{found_or_not}
use Rattle.tape_shelf.specs.ShelfDisk.{Unsynced}
use Rattle.tape_shelf.proofs.new_file.is_on_disk.Goals as goal

pub returns-then-is_err-clause-failed : goal.returns-then-is_err-clause-failed
returns-then-is_err-clause-failed g c place = asked_one _ _ _ (tells_failed _ _ _ c.cut.result c.cut.ensures.asked c.if-is_err.ensures.value) (Unsynced false _ tt tt)

pub returns-then-is_err-2-clause-failed : goal.returns-then-is_err-2-clause-failed
returns-then-is_err-2-clause-failed g c place =
    let was_cut = tells_done _ _ _ c.cut.result c.cut.ensures.asked c.if-is_err.ensures.value in
    asked_one _ _ _ (tells_join _ _ _ _ _ was_cut (tells_failed _ _ _ c.sync_file.result c.sync_file.ensures.asked c.if-is_err-2.ensures.value)) (Unsynced true _ (tt, tt) tt)

pub returns : goal.returns
returns g c =
    let was_cut = tells_done _ _ _ c.cut.result c.cut.ensures.asked c.if-is_err.ensures.value in
    let synced = tells_done _ _ _ c.sync_file.result c.sync_file.ensures.asked c.if-is_err-2.ensures.value in
    let both = found_or_not (room_of g.D.File.Write.contents c.args.part.now) _ _ _ _ _ c.as_str.ensures.value (tells_join _ _ _ _ _ was_cut synced) c.has_name.ensures.asked in
    record { asked = both.0; failed = both.1 }
