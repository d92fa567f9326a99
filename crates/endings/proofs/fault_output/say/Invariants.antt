-- What is gone from the text was said.
use Rattle.std.proofs.Common.{length}
use Rattle.endings.proofs.Lines.{IsSaidBut}
use Rattle.endings.proofs.fault_output.say.Given as goal

abbrev pub invariant-loop-left : goal.invariant-loop-left
invariant-loop-left g l =
    IsSaidBut (g.E.FaultOutput.said l.fn.err) (g.E.FaultOutput.said l.err) l.text l.left

abbrev pub decreases-loop-left : goal.decreases-loop-left
decreases-loop-left g l = length l.left
