use Rattle.record_file.proofs.Asking.{tells_failed, tells_done}
use Rattle.record_file.proofs.Rows.{cut_behind_text, not_cut}
use Rattle.std.proofs.Common.{true, false}
use Rattle.record_file.proofs.disk_record.cut_behind.Goals as goal

pub returns-then-is_err-clause-asked : goal.returns-then-is_err-clause-asked
returns-then-is_err-clause-asked g c before text w size = not_cut _ _ _ _ _ _ w size (tells_failed _ _ _ c.cut.result c.cut.ensures.asked c.if-is_err.ensures.value)

pub returns-in-Ok-clause-asked : goal.returns-in-Ok-clause-asked
returns-in-Ok-clause-asked g c before text w size =
    cut_behind_text _ _ _ _ true _ _ _ w size (tells_done _ _ _ c.cut.result c.cut.ensures.asked c.if-is_err.ensures.value) c.in-Ok.ensures.asked

pub returns-in-Err-clause-asked : goal.returns-in-Err-clause-asked
returns-in-Err-clause-asked g c before text w size =
    cut_behind_text _ _ _ _ false _ _ _ w size (tells_done _ _ _ c.cut.result c.cut.ensures.asked c.if-is_err.ensures.value) c.in-Err.ensures.asked
