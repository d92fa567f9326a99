use Rattle.disk_law.proofs.Needed.{syncs_are_needed}
use Rattle.disk_law.proofs.syncs_are_needed.Goals as goal

pub returns : goal.returns
returns c = syncs_are_needed
