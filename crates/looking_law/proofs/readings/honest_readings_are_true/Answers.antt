use Rattle.looking_law.proofs.Believed.{honest_are_true}
use Rattle.looking_law.proofs.readings.honest_readings_are_true.Goals as goal

pub returns : goal.returns
returns c = honest_are_true
