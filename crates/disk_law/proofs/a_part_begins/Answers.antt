use Rattle.disk_law.proofs.Parts.{a_part_begins}
use Rattle.disk_law.proofs.a_part_begins.Goals as goal

pub returns : goal.returns
returns c = a_part_begins
