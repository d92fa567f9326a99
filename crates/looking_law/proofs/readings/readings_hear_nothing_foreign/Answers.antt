use Rattle.looking_law.proofs.Believed.{hear_nothing_foreign}
use Rattle.looking_law.proofs.readings.readings_hear_nothing_foreign.Goals as goal

pub returns : goal.returns
returns c = hear_nothing_foreign
