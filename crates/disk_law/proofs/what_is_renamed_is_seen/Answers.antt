use Rattle.disk_law.proofs.Durable.{what_is_renamed_is_seen}
use Rattle.disk_law.proofs.what_is_renamed_is_seen.Goals as goal

pub returns : goal.returns
returns c = what_is_renamed_is_seen
