use Rattle.std.proofs.Common.{option_map, refl}
use Rattle.tape_shelf.specs.ShelfDisk.{room_of}
use Rattle.tape_shelf.specs.ShelfDisk.{NotFree}
use Rattle.tape_shelf.proofs.OnShelf.{error_is, has_room_on, then_not_reserved}
use Rattle.tape_shelf.proofs.new_file.NewFileShelf.reserve.Goals as goal

pub returns-in_err-find_free-clause-failed : goal.returns-in_err-find_free-clause-failed
returns-in_err-find_free-clause-failed g c =
    let search = c.in_err-find_free.ensures.asked in
    error_is c.from_residual.result _ _ c.from_residual.ensures.1 (λ folder. (tt, (refl, (search.0, search.1, (NotFree _ _ search.2, refl)))))

pub returns-in_err-make_part-clause-failed : goal.returns-in_err-make_part-clause-failed
returns-in_err-make_part-clause-failed g c =
    let failed = then_not_reserved _ _ _ _ _ c.in_ok-find_free.ensures.asked c.in_err-make_part.ensures.failed in
    error_is c.from_residual-in_err-make_part.result _ _ c.from_residual-in_err-make_part.ensures.1 (λ folder. (tt, (refl, (failed.0, failed.1, (failed.2, refl)))))

pub returns-clause-done : goal.returns-clause-done
returns-clause-done g c =
    let h = has_room_on g.D.Disk.is_opened_as c.args.length g.D.File.Write.contents _ (option_map (room_of g.D.File.Write.contents) c.args.self.now.part) c.in_ok-make_part.field-0 _ _ _ c.in_ok-make_part.ensures.named c.in_ok-make_part.ensures.new
    c.in_ok-make_part.ensures.fresh c.in_ok-make_part.ensures.filled c.in_ok-find_free.ensures.asked c.in_ok-make_part.ensures.asked in
    (h.0, h.1, (tt, (refl, h.2)))
