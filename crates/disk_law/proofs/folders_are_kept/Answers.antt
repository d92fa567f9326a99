use Rattle.disk_law.proofs.Stays.{folders_are_kept}
use Rattle.disk_law.proofs.folders_are_kept.Goals as goal

pub returns : goal.returns
returns c = folders_are_kept
