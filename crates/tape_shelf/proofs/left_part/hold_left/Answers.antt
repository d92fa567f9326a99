use Rattle.std.proofs.Common.{refl, inl}
use Rattle.host_devices.proofs.Told.{tells_join}
use Rattle.record_file.proofs.Asking.{asked_one}
use Rattle.tape_shelf.proofs.left_part.hold_left.Goals as goal

pub returns-then-not-is_sole_file-clause-failed : goal.returns-then-not-is_sole_file-clause-failed
returns-then-not-is_sole_file-clause-failed g c = asked_one _ _ _ c.if-not-is_sole_file.ensures.asked ((tt, tt), inl tt)

pub returns-else-hold-clause-failed : goal.returns-else-hold-clause-failed
returns-else-hold-clause-failed g c =
    asked_one _ _ _ (tells_join _ _ _ _ _ c.if-not-is_sole_file.ensures.asked (tells_join _ _ _ _ _ c.in-Ok.ensures.asked (c.if-hold.ensures.asked _ c.in-Ok.ensures.opened)))
    ((tt, (refl, (tt, tt))), inl tt)

pub returns-in-Err-clause-failed : goal.returns-in-Err-clause-failed
returns-in-Err-clause-failed g c =
    asked_one _ _ _ (tells_join _ _ _ _ _ c.if-not-is_sole_file.ensures.asked c.in-Err.ensures.asked) ((tt, (refl, tt)), inl tt)
