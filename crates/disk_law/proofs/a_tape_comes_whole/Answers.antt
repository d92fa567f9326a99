use Rattle.disk_law.proofs.Shelf.{a_tape_comes_whole}
use Rattle.disk_law.proofs.a_tape_comes_whole.Goals as goal

pub returns : goal.returns
returns c = a_tape_comes_whole
