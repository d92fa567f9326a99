-- Of the inputs so far tapes were taken, and the others are as they were.
use Rattle.input_files.proofs.TapesInput.{IsTaking}
use Rattle.input_files.proofs.tapes.take_tapes.Given as goal

abbrev pub invariant-loop-place : goal.invariant-loop-place
invariant-loop-place g l = IsTaking g.R.Read.remaining l.initial.inputs l.inputs l.place l.taken.tapes.items l.taken.layouts.items
