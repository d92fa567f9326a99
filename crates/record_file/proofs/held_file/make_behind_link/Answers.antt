use Rattle.host_devices.proofs.Told.{tells_join}
use Rattle.record_file.proofs.Asking.{asked_one}
use Rattle.record_file.proofs.Rows.{not_a_link, made_there, not_made_there}
use Rattle.record_file.proofs.held_file.make_behind_link.Goals as goal

pub returns-then-not-is_link-clause-failed : goal.returns-then-not-is_link-clause-failed
returns-then-not-is_link-clause-failed g c = let h = c.if-not-is_link.ensures.asked in (h.0, h.1, not_a_link _ _ h.2)

pub returns-in-Ok-clause-asked : goal.returns-in-Ok-clause-asked
returns-in-Ok-clause-asked g c = let h = c.if-not-is_link.ensures.asked in asked_one _ _ _ (tells_join _ _ _ _ _ h.1 c.in-Ok.ensures.asked) (made_there _ _ h.2)

pub returns-in-Err-clause-failed : goal.returns-in-Err-clause-failed
returns-in-Err-clause-failed g c = let h = c.if-not-is_link.ensures.asked in asked_one _ _ _ (tells_join _ _ _ _ _ h.1 c.in-Err.ensures.asked) (not_made_there _ _ h.2)
