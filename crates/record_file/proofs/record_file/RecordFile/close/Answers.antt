use Rattle.record_file.proofs.Begun.{closed_none, closed_held}
use Rattle.record_file.proofs.record_file.RecordFile.close.Goals as goal

pub returns-in_default : goal.returns-in_default
returns-in_default g c = record { asked = closed_none _ _ _ _ c.in_default.is }

pub returns : goal.returns
returns g c = record { asked = closed_held _ _ _ _ _ c.in-Some.held c.in-Some.is c.let_go.ensures.asked }
