use Rattle.looking_law.proofs.Harmless.{do_no_harm}
use Rattle.looking_law.proofs.readings.readings_do_no_harm.Goals as goal

pub returns : goal.returns
returns c = do_no_harm
