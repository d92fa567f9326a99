use Rattle.std.proofs.Common.{refl, inl}
use Rattle.host_devices.proofs.Told.{tells_join}
use Rattle.record_file.proofs.Asking.{asked_one}
use Rattle.tape_shelf.proofs.left_part.open_left.Goals as goal

pub returns-else-has_name-clause-failed : goal.returns-else-has_name-clause-failed
returns-else-has_name-clause-failed g c = asked_one _ _ _ (tells_join _ _ _ _ _ c.in-Ok.ensures.asked c.if-has_name.ensures.asked) ((refl, (tt, tt)), inl tt)

pub returns-in-Err-clause-failed : goal.returns-in-Err-clause-failed
returns-in-Err-clause-failed g c = asked_one _ _ _ c.in-Err.ensures.asked ((refl, tt), inl tt)
