use Rattle.looking_law.proofs.Believed.{unsaid_are_true}
use Rattle.looking_law.proofs.readings.unsaid_readings_are_true.Goals as goal

pub returns : goal.returns
returns c = unsaid_are_true
