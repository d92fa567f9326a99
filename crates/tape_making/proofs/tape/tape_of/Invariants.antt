use Rattle.std.proofs.Common.{◌-◌, length}
use Rattle.tape_making.proofs.Gathered.{IsGathered}
use Rattle.tape_making.proofs.tape.tape_of.Given as goal

abbrev pub invariant-loop-first : goal.invariant-loop-first
invariant-loop-first l = IsGathered l.bytes l.at l.blocks.items

abbrev pub decreases-loop-first : goal.decreases-loop-first
decreases-loop-first l = length l.bytes - l.at
