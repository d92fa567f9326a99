use Rattle.looking_law.proofs.Told.{readings_tidy}
use Rattle.looking_law.proofs.trying.readings_end_tidily.Goals as goal

pub returns : goal.returns
returns c = readings_tidy
