use Rattle.tape_shelf.proofs.OnShelf.{closed}
use Rattle.tape_shelf.proofs.new_file.NewFile.close.Goals as goal

pub returns-in-Some : goal.returns-in-Some
returns-in-Some g c = record { asked = closed g.D.File.Write.contents _ c.in-Some.part _ _ c.in-Some.is c.leave.ensures.asked }
