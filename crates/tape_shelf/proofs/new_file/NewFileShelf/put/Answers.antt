use Rattle.std.proofs.Common.{refl}
use Rattle.tape_shelf.proofs.OnShelf.{in_room, in_no_room, put_answer}
use Rattle.tape_shelf.proofs.new_file.NewFileShelf.put.Goals as goal

pub returns-in-Some-clause-done : goal.returns-in-Some-clause-done
returns-in-Some-clause-done g c folder opened = (
  tt,
  (
    refl,
    put_answer g.D.File.Write.contents folder _ c.args.text.now c.put_into.result _ _ _ _
        (in_room g.D.Disk.is_opened_as g.D.File.Write.contents _ _ _ _ _ c.in-Some.part _ _ _ c.in-Some.ensures.value c.take.ensures.after c.put_into.ensures.asked opened),
  ),
)

pub returns-in-None-clause-done : goal.returns-in-None-clause-done
returns-in-None-clause-done g c folder opened = (tt, (refl, in_no_room g.D.File.Write.contents _ _ _ _ _ _ c.in-None.ensures.value c.take.ensures.after))
