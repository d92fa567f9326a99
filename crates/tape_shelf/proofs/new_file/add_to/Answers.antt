use Rattle.host_devices.proofs.Told.{tells_none}
use Rattle.std.proofs.Common.{true, false}
use Rattle.record_file.proofs.Asking.{asked_one, tells_failed, tells_done}
use Rattle.tape_shelf.specs.ShelfDisk.{Written, Unwritten}
use Rattle.tape_shelf.proofs.OnShelf.{done, failed, nothing_written}
use Rattle.tape_shelf.proofs.new_file.add_to.Goals as goal

pub returns-in_default-clause-not_added : goal.returns-in_default-clause-not_added
returns-in_default-clause-not_added g c = asked_one _ _ _ (tells_none _) (Unwritten _ _ (nothing_written _ _))

pub returns-then-is_err-clause-not_added : goal.returns-then-is_err-clause-not_added
returns-then-is_err-clause-not_added g c =
    asked_one _ _ _ (tells_none _) (Unwritten _ _ (failed _ c.write_and_flush.result c.if-is_err.ensures.value c.write_and_flush.ensures.err))

pub returns-then-is_err-2-clause-not_added : goal.returns-then-is_err-2-clause-not_added
returns-then-is_err-2-clause-not_added g c =
    asked_one _ _ _ (tells_failed _ _ _ c.sync_file.result c.sync_file.ensures.asked c.if-is_err-2.ensures.value)
    (Written _ _ _ false (done _ c.write_and_flush.result c.if-is_err.ensures.value c.write_and_flush.ensures.ok) c.in-Some.ensures.1)

pub returns-clause-added : goal.returns-clause-added
returns-clause-added g c =
    asked_one _ _ _ (tells_done _ _ _ c.sync_file.result c.sync_file.ensures.asked c.if-is_err-2.ensures.value)
    (Written _ _ _ true (done _ c.write_and_flush.result c.if-is_err.ensures.value c.write_and_flush.ensures.ok) c.in-Some.ensures.1)
