use Rattle.disk_law.proofs.Kept.{a_record_is_kept}
use Rattle.disk_law.proofs.a_record_is_kept.Goals as goal

pub returns : goal.returns
returns c = a_record_is_kept
