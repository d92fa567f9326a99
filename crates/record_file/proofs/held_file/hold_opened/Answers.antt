use Rattle.host_devices.proofs.Told.{tells_none, tells_join}
use Rattle.record_file.proofs.Asking.{asked_one}
use Rattle.record_file.proofs.Rows.{moved}
use Rattle.record_file.specs.Holding.{Held, InUse, Unknown}
use Rattle.record_file.proofs.held_file.hold_opened.Goals as goal

pub returns-in_default-clause-failed : goal.returns-in_default-clause-failed
returns-in_default-clause-failed g c = asked_one _ _ _ (tells_none _) Unknown

pub returns-then-not-is_free-clause-failed : goal.returns-then-not-is_free-clause-failed
returns-then-not-is_free-clause-failed g c = asked_one _ _ _ c.if-not-is_free.ensures.asked (InUse _)

pub returns-in-Ok-look-clause-asked : goal.returns-in-Ok-look-clause-asked
returns-in-Ok-look-clause-asked g c = asked_one _ _ _ (tells_join _ _ _ _ _ c.if-not-is_free.ensures.asked c.in-Ok-look.ensures.asked) (Held _)

pub returns-in_default-look-clause-failed : goal.returns-in_default-look-clause-failed
returns-in_default-look-clause-failed g c = asked_one _ _ _ (tells_join _ _ _ _ _ c.if-not-is_free.ensures.asked c.look.ensures.asked) (moved _ _ c.look.result)
