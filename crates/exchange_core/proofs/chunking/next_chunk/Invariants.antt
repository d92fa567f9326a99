use Rattle.exchange_core.proofs.Parts.{IsPart}
use Rattle.exchange_core.proofs.chunking.next_chunk.Given as goal

abbrev pub invariant-loop-more : goal.invariant-loop-more
invariant-loop-more l = IsPart l.fn.plan l.fn.number l.more l.chunk
