use Rattle.host_devices.proofs.Told.{tells_none}
use Rattle.record_file.proofs.Asking.{asked_one, on_err, not_ok}
use Rattle.record_file.proofs.Rows.{ready_device, ready_file, unready_file, same_place}
use Rattle.std.proofs.Common.{refl, [], sym, ◌∙◌}
use Rattle.record_file.proofs.disk_record.make_ready.Goals as goal

pub returns-then-held-clause-asked : goal.returns-then-held-clause-asked
returns-then-held-clause-asked g c = asked_one _ _ _ (tells_none _) (ready_device _ _ _ c.if-held.true)

pub returns-in_err-size-clause-asked : goal.returns-in_err-size-clause-asked
returns-in_err-size-clause-asked g c = not_ok _ c.from_residual.result c.from_residual.ensures.0

pub returns-in_err-size-clause-failed : goal.returns-in_err-size-clause-failed
returns-in_err-size-clause-failed g c = on_err c.from_residual.result ([], tells_none _, ((λ held. tt), refl))

pub returns-in_err-sync_place-clause-asked : goal.returns-in_err-sync_place-clause-asked
returns-in_err-sync_place-clause-asked g c = not_ok _ c.from_residual-in_err-sync_place.result c.from_residual-in_err-sync_place.ensures.0

pub returns-in_err-sync_place-clause-failed : goal.returns-in_err-sync_place-clause-failed
returns-in_err-sync_place-clause-failed g c = on_err c.from_residual-in_err-sync_place.result c.in_err-sync_place.ensures.failed

pub returns-then-is_named-clause-asked : goal.returns-then-is_named-clause-asked
returns-then-is_named-clause-asked g c = ready_file _ _ _ _ _ _ c.if-held.false
    (same_place _ _ _ _ _ c.in_ok-size.ensures.kind c.in_ok-sync_place.ensures.asked) c.if-is_named.ensures.asked

pub returns-else-is_named-clause-failed : goal.returns-else-is_named-clause-failed
returns-else-is_named-clause-failed g c = unready_file _ _ _ _ _ (same_place _ _ _ _ _ c.in_ok-size.ensures.kind c.in_ok-sync_place.ensures.asked)
    c.if-is_named.ensures.asked

pub returns-then-held-clause-size : goal.returns-then-held-clause-size
returns-then-held-clause-size g c is = absurd (cc (sym c.if-held.true ∙ is))

pub returns-then-held-clause-front : goal.returns-then-held-clause-front
returns-then-held-clause-front g c is = absurd (cc (sym c.if-held.true ∙ is))

pub returns-in_err-size-clause-size : goal.returns-in_err-size-clause-size
returns-in_err-size-clause-size g c = not_ok _ c.from_residual.result c.from_residual.ensures.0

pub returns-in_err-sync_place-clause-size : goal.returns-in_err-sync_place-clause-size
returns-in_err-sync_place-clause-size g c = not_ok _ c.from_residual-in_err-sync_place.result c.from_residual-in_err-sync_place.ensures.0
