use Rattle.std.proofs.Common.{length}
use Rattle.loss_scripts.proofs.Scripts.{IsReading}
use Rattle.loss_scripts.proofs.script.read_script.Given as goal

abbrev pub invariant-loop-rest : goal.invariant-loop-rest
invariant-loop-rest l = IsReading l.text l.rest l.draft l.number

abbrev pub decreases-loop-rest : goal.decreases-loop-rest
decreases-loop-rest l = length l.rest
