use Rattle.disk_law.proofs.Durable.{a_new_record_is_durable}
use Rattle.disk_law.proofs.a_new_record_is_durable.Goals as goal

pub returns : goal.returns
returns c = a_new_record_is_durable
