use Rattle.host_devices.proofs.Told.{tells_join}
use Rattle.record_file.proofs.Rows.{again}
use Rattle.record_file.proofs.beside.make_again.Goals as goal

pub returns-clause-asked : goal.returns-clause-asked
returns-clause-asked g c = again _ c.remove.result c.open.result _ _ _ c.if-not-is_left.ensures.asked (tells_join _ _ _ _ _ c.remove.ensures.asked c.open.ensures.asked)
