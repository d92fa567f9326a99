use Rattle.std.proofs.Common.{refl}
use Rattle.host_devices.proofs.Told.{tells_join, tells_none}
use Rattle.record_file.proofs.Asking.{asked_one, tells_failed, tells_done}
use Rattle.tape_shelf.proofs.new_file.take_room.Goals as goal

pub returns-then-is_err-clause-failed : goal.returns-then-is_err-clause-failed
returns-then-is_err-clause-failed g c dir opened = asked_one _ _ _ (tells_none _) (tt, refl)

pub returns-then-is_err-2-clause-failed : goal.returns-then-is_err-2-clause-failed
returns-then-is_err-2-clause-failed g c dir opened = asked_one _ _ _ (tells_failed _ _ _ c.sync_file.result c.sync_file.ensures.asked c.if-is_err-2.ensures.value) (tt, refl)

pub returns-then-is_err-3-clause-failed : goal.returns-then-is_err-3-clause-failed
returns-then-is_err-3-clause-failed g c dir opened =
    let synced = tells_done _ _ _ c.sync_file.result c.sync_file.ensures.asked c.if-is_err-2.ensures.value in
    asked_one _ _ _ (tells_join _ _ _ _ _ synced (tells_failed _ _ _ c.sync_folder.result (c.sync_folder.ensures.asked dir opened) c.if-is_err-3.ensures.value)) (tt, refl)

pub returns-in-Ok-clause-asked : goal.returns-in-Ok-clause-asked
returns-in-Ok-clause-asked g c dir opened =
    let synced = tells_done _ _ _ c.sync_file.result c.sync_file.ensures.asked c.if-is_err-2.ensures.value in
    let settled = tells_done _ _ _ c.sync_folder.result (c.sync_folder.ensures.asked dir opened) c.if-is_err-3.ensures.value in
    asked_one _ _ _ (tells_join _ _ _ _ _ synced (tells_join _ _ _ _ _ settled c.in-Ok.ensures.asked)) refl

pub returns-in-Err-clause-failed : goal.returns-in-Err-clause-failed
returns-in-Err-clause-failed g c dir opened =
    let synced = tells_done _ _ _ c.sync_file.result c.sync_file.ensures.asked c.if-is_err-2.ensures.value in
    let settled = tells_done _ _ _ c.sync_folder.result (c.sync_folder.ensures.asked dir opened) c.if-is_err-3.ensures.value in
    asked_one _ _ _ (tells_join _ _ _ _ _ synced (tells_join _ _ _ _ _ settled c.in-Err.ensures.asked)) (tt, refl)
