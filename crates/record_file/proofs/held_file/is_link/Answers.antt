use Rattle.record_file.proofs.Asking.{asked_one}
use Rattle.record_file.proofs.Rows.{seen}
use Rattle.record_file.specs.DiskStep.{Unseen}
use Rattle.std.proofs.Common.{false}
use Rattle.record_file.proofs.held_file.is_link.Goals as goal

pub returns-in-Ok-clause-asked : goal.returns-in-Ok-clause-asked
returns-in-Ok-clause-asked g c = asked_one _ _ _ c.in-Ok.ensures.asked (seen _ _)

pub returns-in-Err-clause-asked : goal.returns-in-Err-clause-asked
returns-in-Err-clause-asked g c = asked_one _ _ _ c.in-Err.ensures.asked (Unseen false)
