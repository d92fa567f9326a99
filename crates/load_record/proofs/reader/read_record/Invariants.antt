-- The lines so far led to the progress, and what is left is the rest of the text.
use Rattle.std.proofs.Common.{length}
use Rattle.load_record.proofs.SoFar.{IsReadSoFar}
use Rattle.load_record.proofs.reader.read_record.Given as goal

abbrev pub invariant-loop-line : goal.invariant-loop-line
invariant-loop-line l = IsReadSoFar l.plan l.input l.version l.progress l.number l.rest

abbrev pub decreases-loop-line : goal.decreases-loop-line
decreases-loop-line l = length l.rest
