-- What was found so far.
use Rattle.tape_commands.proofs.Spans.{IsSpanBelow}
use Rattle.tape_commands.proofs.block_list.span_of.Given as goal

abbrev pub invariant-loop-address : goal.invariant-loop-address
invariant-loop-address l = IsSpanBelow l.address l.plan.image l.span
