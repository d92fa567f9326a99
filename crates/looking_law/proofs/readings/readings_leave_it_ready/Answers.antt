use Rattle.looking_law.proofs.Believed.{leave_ready}
use Rattle.looking_law.proofs.readings.readings_leave_it_ready.Goals as goal

pub returns : goal.returns
returns c = leave_ready
