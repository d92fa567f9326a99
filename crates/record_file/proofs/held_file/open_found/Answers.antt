use Rattle.record_file.specs.Holding.{Writable, Protected, Refused}
use Rattle.host_devices.proofs.Told.{tells_join}
use Rattle.record_file.proofs.Asking.{asked_one}
use Rattle.record_file.proofs.held_file.open_found.Goals as goal

pub returns-in-Ok-clause-asked : goal.returns-in-Ok-clause-asked
returns-in-Ok-clause-asked g c = asked_one _ _ _ c.in-Ok.ensures.asked Writable

pub returns-in-Ok-open-clause-asked : goal.returns-in-Ok-open-clause-asked
returns-in-Ok-open-clause-asked g c = asked_one _ _ _ (tells_join _ _ _ _ _ c.in_default.ensures.asked c.in-Ok-open.ensures.asked) Protected

pub returns-in-Err-clause-failed : goal.returns-in-Err-clause-failed
returns-in-Err-clause-failed g c = asked_one _ _ _ (tells_join _ _ _ _ _ c.in_default.ensures.asked c.in-Err.ensures.asked) Refused

pub returns-in-Err-2-clause-failed : goal.returns-in-Err-2-clause-failed
returns-in-Err-2-clause-failed g c = asked_one _ _ _ (tells_join _ _ _ _ _ c.in_default.ensures.asked c.in-Err.ensures.asked) Refused
