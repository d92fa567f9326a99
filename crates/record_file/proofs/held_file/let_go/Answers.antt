use Rattle.host_devices.proofs.Told.{tells_none, tells_join}
use Rattle.record_file.proofs.Asking.{asked_one}
use Rattle.record_file.proofs.Rows.{goes, leads_elsewhere, stays}
use Rattle.record_file.proofs.held_file.let_go.Goals as goal

pub returns-then-is_named : goal.returns-then-is_named
returns-then-is_named g c = let h = c.if-is_named.ensures.asked in record { asked = asked_one _ _ _ (tells_join _ _ _ _ _ h.1 c.remove.ensures.asked) (goes _ _ c.remove.result _ c.in-Here.is h.2) }

pub returns-in-Here : goal.returns-in-Here
returns-in-Here g c = let h = c.if-is_named.ensures.asked in record { asked = (h.0, h.1, leads_elsewhere _ _ _ c.in-Here.is h.2) }

pub returns : goal.returns
returns g c = record { asked = asked_one _ _ _ (tells_none _) (stays _ _ c.in-Before.is) }
