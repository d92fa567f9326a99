use Rattle.host_devices.proofs.Told.{tells_none}
use Rattle.record_file.proofs.Asking.{asked_one}
use Rattle.record_file.proofs.Rows.{device_found, out_of_reach, reached}
use Rattle.record_file.specs.Reading.{Protected}
use Rattle.record_file.proofs.held_file.way_over.Goals as goal

pub returns-then-not-held : goal.returns-then-not-held
returns-then-not-held g c = record { asked = asked_one _ _ _ (tells_none _) (Protected _) }

pub returns-then-held : goal.returns-then-held
returns-then-held g c = record { asked = asked_one _ _ _ (tells_none _) (device_found _ _ c.if-held.true) }

pub returns-then-is_sole_file : goal.returns-then-is_sole_file
returns-then-is_sole_file g c = record { asked = asked_one _ _ _ c.if-is_sole_file.ensures.asked (reached _ _ c.if-held.false) }

pub returns-else-is_sole_file : goal.returns-else-is_sole_file
returns-else-is_sole_file g c = record { asked = asked_one _ _ _ c.if-is_sole_file.ensures.asked (out_of_reach _ _ c.if-held.false) }
