-- What is gone from the text was written.
use Rattle.std.proofs.Common.{length}
use Rattle.byte_io.specs.Output.{WritesAllBut}
use Rattle.byte_io.proofs.output.write_whole.Given as goal

abbrev pub invariant-loop-left : goal.invariant-loop-left
invariant-loop-left g l = WritesAllBut (g.W.Write.contents l.fn.out) (g.W.Write.contents l.out) l.text l.left

abbrev pub decreases-loop-left : goal.decreases-loop-left
decreases-loop-left g l = length l.left
