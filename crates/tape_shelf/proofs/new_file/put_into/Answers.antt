use Rattle.tape_shelf.specs.ShelfDisk.{room_of}
use Rattle.tape_shelf.specs.ShelfDisk.{NotWritten}
use Rattle.tape_shelf.proofs.OnShelf.{done, failed, nothing_written, put_written}
use Rattle.tape_shelf.proofs.new_file.put_into.Goals as goal

pub returns-in_default-clause-asked : goal.returns-in_default-clause-asked
returns-in_default-clause-asked g c folder opened = let leaving = c.leave.ensures.asked in (leaving.0, leaving.1, NotWritten _ _ _ (nothing_written _ _) leaving.2)

pub returns-then-is_err-clause-asked : goal.returns-then-is_err-clause-asked
returns-then-is_err-clause-asked g c folder opened =
    let leaving = c.leave-then-is_err.ensures.asked in
    (leaving.0, leaving.1, NotWritten _ _ _ (failed _ c.write_and_flush.result c.if-is_err.ensures.value c.write_and_flush.ensures.err) leaving.2)

pub returns-clause-asked : goal.returns-clause-asked
returns-clause-asked g c folder opened =
    put_written _ _ (room_of g.D.File.Write.contents c.args.part) _ _ _ _ _ (done _ c.write_and_flush.result c.if-is_err.ensures.value c.write_and_flush.ensures.ok) c.in-Some.ensures.1
    (c.name_written.ensures.asked folder opened)
