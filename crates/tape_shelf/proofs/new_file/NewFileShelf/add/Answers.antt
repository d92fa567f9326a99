use Rattle.std.proofs.Common.{refl}
use Rattle.tape_shelf.proofs.OnShelf.{add_answer, not_added_nowhere, opened_still}
use Rattle.tape_shelf.proofs.new_file.NewFileShelf.add.Goals as goal

pub returns-in_default-clause-done : goal.returns-in_default-clause-done
returns-in_default-clause-done g c folder = (tt, (refl, not_added_nowhere g.D.File.Write.contents _ _ _ _ c.in_default.ensures.value c.take.ensures.after))

pub returns-clause-opened : goal.returns-clause-opened
returns-clause-opened g c folder opened = opened_still g.D.Disk.is_opened_as c.args.self.now.part c.in-Some.part c.add_to-added.new.beside folder c.in-Some.ensures.value c.add_to-added.ensures.folder opened

pub returns-clause-done : goal.returns-clause-done
returns-clause-done g c folder =
    let added = c.add_to-added.ensures in (
      tt,
      (
        refl,
        add_answer g.D.File.Write.contents folder _ c.args.text.now c.args.self.now.part c.in-Some.part c.add_to-added.new.beside c.add_to-added.result _ _
            c.in-Some.ensures.value added.added added.not_added,
      ),
    )
