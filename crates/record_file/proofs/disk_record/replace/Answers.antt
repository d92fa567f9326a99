use Rattle.host_devices.proofs.Told.{tells_join}
use Rattle.record_file.proofs.Asking.{asked_one, tells_failed, tells_done}
use Rattle.record_file.proofs.Rows.{whole, unsynced, not_renamed, moved_away}
use Rattle.record_file.proofs.disk_record.replace.Goals as goal

pub returns-then-not-is_named-clause-asked : goal.returns-then-not-is_named-clause-asked
returns-then-not-is_named-clause-asked g c dir text opened of left = asked_one _ _ _ (tells_join _ _ _ _ _ c.if-not-is_named.ensures.asked.1 c.remove.ensures.asked)
    (λ before aside. moved_away _ _ text before _ c.remove.result _ c.requires aside c.if-not-is_named.ensures.asked.2)

pub returns-then-is_err-clause-asked : goal.returns-then-is_err-clause-asked
returns-then-is_err-clause-asked g c dir text opened of left = asked_one _ _ _ (tells_join _ _ _ _ _ c.if-not-is_named.ensures.asked.1
    (tells_join _ _ _ _ _ (tells_failed _ _ _ c.rename.result c.rename.ensures.asked c.if-is_err.ensures.value) c.remove-then-is_err.ensures.asked))
    (λ before aside. not_renamed _ _ text before _ _ c.remove-then-is_err.result _ c.requires aside c.if-not-is_named.ensures.asked.2)

pub returns-in-Ok-clause-asked : goal.returns-in-Ok-clause-asked
returns-in-Ok-clause-asked g c dir text opened of left = whole _ _ dir text _ _ _ _ _ _ _ of c.requires left c.if-not-is_named.ensures.asked.1
    (tells_done _ _ _ c.rename.result c.rename.ensures.asked c.if-is_err.ensures.value) (c.in-Ok.ensures.asked dir opened) c.if-not-is_named.ensures.asked.2

pub returns-in-Err-clause-asked : goal.returns-in-Err-clause-asked
returns-in-Err-clause-asked g c dir text opened of left = unsynced _ _ dir text _ _ _ _ _ _ _ c.requires left c.if-not-is_named.ensures.asked.1
    (tells_done _ _ _ c.rename.result c.rename.ensures.asked c.if-is_err.ensures.value) (c.in-Err.ensures.asked dir opened) c.if-not-is_named.ensures.asked.2
