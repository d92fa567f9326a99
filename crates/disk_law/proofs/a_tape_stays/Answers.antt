use Rattle.disk_law.proofs.Shelf.{a_tape_stays}
use Rattle.disk_law.proofs.a_tape_stays.Goals as goal

pub returns : goal.returns
returns c = a_tape_stays
