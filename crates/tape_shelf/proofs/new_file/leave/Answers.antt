use Rattle.tape_shelf.specs.ShelfDisk.{room_of}
use Rattle.tape_shelf.proofs.OnShelf.{left, stays}
use Rattle.tape_shelf.proofs.new_file.leave.Goals as goal

pub returns-then-not-part : goal.returns-then-not-part
returns-then-not-part g c = record { asked = left (room_of g.D.File.Write.contents c.args.part.now) _ _ _ c.as_str.ensures.value c.if-not-part.true c.let_go.ensures.asked }

pub returns-else-not-part : goal.returns-else-not-part
returns-else-not-part g c = record { asked = stays (room_of g.D.File.Write.contents c.args.part.now) _ c.if-not-part.false }
