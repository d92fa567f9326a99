use Rattle.disk_law.proofs.Stays.{a_new_record_stays}
use Rattle.disk_law.proofs.a_new_record_stays.Goals as goal

pub returns : goal.returns
returns c = a_new_record_stays
