use Rattle.host_devices.proofs.Told.{tells_join}
use Rattle.record_file.proofs.Asking.{asked_one, on_err}
use Rattle.record_file.proofs.Rows.{folder_shut}
use Rattle.record_file.specs.Beginning.{FolderOpened}
use Rattle.record_file.specs.Folder.{IsFolderOf}
use Rattle.std.proofs.Common.{refl, subst}
use Rattle.record_file.proofs.disk_record.sync_place.Goals as goal

pub returns-in_default-clause-failed : goal.returns-in_default-clause-failed
returns-in_default-clause-failed g c = asked_one _ _ _ c.in_default.ensures.asked ((λ held. tt), refl)

pub returns-in_default-open-clause-asked : goal.returns-in_default-open-clause-asked
returns-in_default-open-clause-asked g c = folder_shut _ _ _ _ _ _ _ c.without_folder.result c.as_str.ensures c.without_folder.ensures.done c.folder_of.ensures
    (tells_join _ _ _ _ _ c.in-Ok.ensures.asked c.in_default-open.ensures.asked)

pub returns-in_default-open-clause-failed : goal.returns-in_default-open-clause-failed
returns-in_default-open-clause-failed g c = on_err c.without_folder.result
    (asked_one _ _ _ (tells_join _ _ _ _ _ c.in-Ok.ensures.asked c.in_default-open.ensures.asked) ((λ held. tt), refl))

pub returns-in-Ok-sync_folder-clause-asked : goal.returns-in-Ok-sync_folder-clause-asked
returns-in-Ok-sync_folder-clause-asked g c = asked_one _ _ _ (tells_join _ _ _ _ _ c.in-Ok.ensures.asked
    (tells_join _ _ _ _ _ c.in-Ok-open.ensures.asked (c.in-Ok-sync_folder.ensures.asked _ c.in-Ok-open.ensures.opened)))
    (FolderOpened _ _ (subst (λ target. IsFolderOf target c.folder_of.result.now) c.as_str.ensures c.folder_of.ensures), ((λ held. tt), refl))

pub returns-clause-failed : goal.returns-clause-failed
returns-clause-failed g c = asked_one _ _ _ (tells_join _ _ _ _ _ c.in-Ok.ensures.asked
    (tells_join _ _ _ _ _ c.in-Ok-open.ensures.asked (c.in-Err.ensures.asked _ c.in-Ok-open.ensures.opened))) ((λ held. tt), refl)
