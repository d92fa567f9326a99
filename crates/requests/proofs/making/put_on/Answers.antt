use Rattle.std.proofs.Common.{ap, option_map, subst, refl}
use Rattle.std.specs.Prelude.{[], ◌∷◌, length}
use Rattle.tape_shelf.specs.ShelfDisk.{room_of}
use Rattle.tape_shelf.specs.ShelfDisk.{part_name}
use Rattle.tape_shelf.specs.Shelf.{Put, Reserve}
use Rattle.tape_shelf.specs.ShelfTold.{HasDone, ShelfTold}
use Rattle.requests.specs.Making.{IsNotPutWhole}
use Rattle.requests.proofs.Saved.{new_is, same_left, shelf_on}
use Rattle.requests.proofs.making.put_on.Goals as goal

pub returns-in-Ok-clause-ok : goal.returns-in-Ok-clause-ok
returns-in-Ok-clause-ok g c =
    let asked = g.D.Disk.asked c.args.disk in
    let is_new = new_is c.args.file asked _ _ _ _ _ (ap g.D.Disk.asked c.new-shelf.ensures.disk) c.new-shelf.ensures.name (ap (option_map (room_of g.D.File.Write.contents)) c.new-shelf.ensures.room)
    (same_left g.D.Disk.holds c.new-shelf.result.disk c.args.disk c.new-shelf.result.name.now c.args.file.now c.new-shelf.ensures.disk c.new-shelf.ensures.name) in
    let last : ShelfTold = shelf_on (g.D.Disk.asked c.put_whole-put.new.shelf.disk) c.put_whole-put.new.shelf.name.now (option_map (room_of g.D.File.Write.contents) c.put_whole-put.new.shelf.part)
    (g.D.Disk.holds c.put_whole-put.new.shelf.disk (part_name c.put_whole-put.new.shelf.name.now)) in
    record {
      shelf = last;
      put = subst (λ shelf. HasDone (Reserve (length c.args.text.now) ∷ Put c.args.text.now ∷ []) shelf last) is_new c.in-Ok.ensures.ok;
      let_go = c.close-disk.ensures.asked;
      status_is = refl;
    }

pub returns-in-Err-clause-err : goal.returns-in-Err-clause-err
returns-in-Err-clause-err g c =
    let asked = g.D.Disk.asked c.args.disk in
    let is_new = new_is c.args.file asked _ _ _ _ _ (ap g.D.Disk.asked c.new-shelf.ensures.disk) c.new-shelf.ensures.name (ap (option_map (room_of g.D.File.Write.contents)) c.new-shelf.ensures.room)
    (same_left g.D.Disk.holds c.new-shelf.result.disk c.args.disk c.new-shelf.result.name.now c.args.file.now c.new-shelf.ensures.disk c.new-shelf.ensures.name) in
    let last : ShelfTold = shelf_on (g.D.Disk.asked c.put_whole-put.new.shelf.disk) c.put_whole-put.new.shelf.name.now (option_map (room_of g.D.File.Write.contents) c.put_whole-put.new.shelf.part)
    (g.D.Disk.holds c.put_whole-put.new.shelf.disk (part_name c.put_whole-put.new.shelf.name.now)) in
    record {
      shelf = last;
      fault = c.in-Err.fault;
      not_put = subst (λ shelf. IsNotPutWhole c.args.text.now c.in-Err.fault shelf last) is_new c.in-Err.ensures.err;
      let_go = c.close-disk.ensures.asked;
      is_called = c.failure-failure.ensures;
    }
