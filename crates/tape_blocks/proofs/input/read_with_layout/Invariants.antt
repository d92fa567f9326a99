-- What was taken is what the reader was fed.
use Rattle.std.proofs.Common.{◌-◌}
use Rattle.tape_blocks.specs.Input.{input_limit}
use Rattle.tape_blocks.proofs.Intake.{IsTaking}
use Rattle.tape_blocks.proofs.input.read_with_layout.Given as goal

abbrev pub invariant-loop-piece : goal.invariant-loop-piece
invariant-loop-piece g l = IsTaking (g.R.Read.remaining l.initial.input) (g.R.Read.remaining l.input) l.reader l.taken

abbrev pub decreases-loop-piece : goal.decreases-loop-piece
decreases-loop-piece g l = input_limit - l.taken
