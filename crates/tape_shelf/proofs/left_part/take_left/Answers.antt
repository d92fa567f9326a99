use Rattle.std.proofs.Common.{◌∙◌}
use Rattle.record_file.proofs.Asking.{asked_one, tells_done, tells_failed}
use Rattle.tape_shelf.specs.ShelfDisk.{IsUntaken, Opened, Shut}
use Rattle.tape_shelf.proofs.OnShelf.{in_folder, not_synced, resumed}
use Rattle.tape_shelf.proofs.left_part.take_left.Goals as goal

pub returns-in_default-clause-failed : goal.returns-in_default-clause-failed
returns-in_default-clause-failed g c = asked_one _ _ _ c.in_default.ensures.asked (Shut _ c.folder_of.ensures)

pub returns-in_default-format-clause-failed : goal.returns-in_default-format-clause-failed
returns-in_default-format-clause-failed g c = asked_one _ _ _ c.in-Ok.ensures.asked (Opened _ _ _ c.folder_of.ensures (tt, λ has. has))

pub returns-then-is_err-clause-failed : goal.returns-then-is_err-clause-failed
returns-then-is_err-clause-failed g c =
    let unsynced = tells_failed _ _ _ c.sync_folder.result (c.sync_folder.ensures.asked _ c.in-Ok.ensures.opened) c.if-is_err.ensures.value in
    in_folder IsUntaken _ _ _ _ _ _ _ (c.as_str.ensures.value ∙ c.in-Ok-format.ensures.ok) c.folder_of.ensures c.in-Ok.ensures.asked
    (not_synced _ _ _ _ _ _ _ (c.as_str.ensures.value ∙ c.in-Ok-format.ensures.ok) c.folder_of.ensures c.in-Ok-take_named.ensures.asked unsynced)

pub returns-else-is_err-clause-asked : goal.returns-else-is_err-clause-asked
returns-else-is_err-clause-asked g c =
    let synced = tells_done _ _ _ c.sync_folder.result (c.sync_folder.ensures.asked _ c.in-Ok.ensures.opened) c.if-is_err.ensures.value in (
      _,
      c.in-Ok.ensures.opened,
      c.folder_of.ensures,
      resumed _ _ _ _ _ _ _ _ (c.as_str.ensures.value ∙ c.in-Ok-format.ensures.ok) c.in-Ok.ensures.asked c.in-Ok-take_named.ensures.asked synced,
    )

pub returns-in-Err-clause-failed : goal.returns-in-Err-clause-failed
returns-in-Err-clause-failed g c =
    in_folder IsUntaken _ _ _ _ _ _ _ (c.as_str.ensures.value ∙ c.in-Ok-format.ensures.ok) c.folder_of.ensures c.in-Ok.ensures.asked c.in-Err.ensures.failed
