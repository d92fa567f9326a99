use Rattle.std.proofs.Common.{option_map, refl}
use Rattle.tape_shelf.specs.ShelfDisk.{room_of}
use Rattle.tape_shelf.proofs.OnShelf.{has_part_on}
use Rattle.tape_shelf.proofs.new_file.NewFileShelf.resume.Goals as goal

pub returns-in-Ok-clause-done : goal.returns-in-Ok-clause-done
returns-in-Ok-clause-done g c =
    let left = c.in-Ok.ensures in
    let h = has_part_on g.D.Disk.is_opened_as g.D.File.Write.contents _ _ (option_map (room_of g.D.File.Write.contents) c.args.self.now.part) c.in-Ok.part _ _ left.named left.new left.kept left.fresh left.untouched left.asked in
    (h.0, h.1, (tt, (refl, h.2)))

pub returns-in-Err-clause-failed : goal.returns-in-Err-clause-failed
returns-in-Err-clause-failed g c folder = let idle = c.in-Err.ensures.failed in (tt, (refl, (idle.0, idle.1, (idle.2, refl))))
