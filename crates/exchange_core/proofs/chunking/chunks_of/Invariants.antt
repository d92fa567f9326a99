use Rattle.std.proofs.Common.{◌-◌}
use Rattle.exchange_core.proofs.Fronts.{AreFront}
use Rattle.exchange_core.proofs.chunking.chunks_of.Given as goal

abbrev pub invariant-loop-number : goal.invariant-loop-number
invariant-loop-number l = AreFront l.fn.plan l.fn.from l.fn.to l.number l.chunks.items

abbrev pub decreases-loop-number : goal.decreases-loop-number
decreases-loop-number l = l.to - l.number
