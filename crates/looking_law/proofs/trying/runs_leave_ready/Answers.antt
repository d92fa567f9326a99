use Rattle.looking_law.proofs.Parts.{leave_ready}
use Rattle.looking_law.proofs.trying.runs_leave_ready.Goals as goal

pub returns : goal.returns
returns c = leave_ready
