use Rattle.tape_commands.proofs.Kept.{nothing_behind, nothing_in_front}
use Rattle.tape_commands.proofs.output.flushed.Goals as goal

pub returns-in-Ok-clause-bytes : goal.returns-in-Ok-clause-bytes
returns-in-Ok-clause-bytes g c = nothing_behind _ _ c.in-Ok.ensures.ok

pub returns-in-Err-clause-bytes : goal.returns-in-Err-clause-bytes
returns-in-Err-clause-bytes g c = nothing_in_front _ _ c.in-Err.ensures.err
