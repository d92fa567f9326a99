use Rattle.tape_shelf.specs.ShelfDisk.{room_of}
use Rattle.tape_shelf.proofs.OnShelf.{named, not_named, unsettled}
use Rattle.tape_shelf.proofs.new_file.name_written.Goals as goal

pub returns-then-not-is_on_disk-clause-asked : goal.returns-then-not-is_on_disk-clause-asked
returns-then-not-is_on_disk-clause-asked g c folder opened = c.if-not-is_on_disk.ensures.failed _

pub returns-in-Err-clause-asked : goal.returns-in-Err-clause-asked
returns-in-Err-clause-asked g c folder opened =
    not_named _ (room_of g.D.File.Write.contents c.args.part.now) _ _ _ _ _ c.as_str.ensures.value c.if-not-is_on_disk.ensures.asked c.in-Err.ensures.asked

pub returns-in-Ok-sync_folder-clause-asked : goal.returns-in-Ok-sync_folder-clause-asked
returns-in-Ok-sync_folder-clause-asked g c folder opened =
    named _ (room_of g.D.File.Write.contents c.args.part.now) _ _ _ _ _ _ _ c.as_str.ensures.value c.as_str-in-Ok-sync_folder.ensures.value c.if-not-is_on_disk.ensures.asked c.in-Ok.ensures.asked
    (c.in-Ok-sync_folder.ensures.asked folder opened) c.let_go.ensures.asked

pub returns-in-Err-sync_folder-clause-asked : goal.returns-in-Err-sync_folder-clause-asked
returns-in-Err-sync_folder-clause-asked g c folder opened =
    unsettled _ (room_of g.D.File.Write.contents c.args.part.now) _ _ _ _ _ _ _ c.as_str.ensures.value c.as_str-in-Err-sync_folder.ensures.value c.if-not-is_on_disk.ensures.asked c.in-Ok.ensures.asked
    (c.in-Err-sync_folder.ensures.asked folder opened) c.take_back.ensures.asked
