use Rattle.std.proofs.Common.{take}
use Rattle.exchange_core.specs.Chunking.{AreStretches}
use Rattle.exchange_core.proofs.stretches.stretches_of.Given as goal

abbrev pub invariant-loop-chunk : goal.invariant-loop-chunk
invariant-loop-chunk l = AreStretches (take l.chunk-index l.fn.chunks) l.stretches.items
