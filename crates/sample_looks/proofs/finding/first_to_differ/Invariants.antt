-- Each word before this one stands as it was read.
use Rattle.sample_looks.specs.Finding.{StandAsRead}
use Rattle.sample_looks.proofs.finding.first_to_differ.Given as goal

abbrev pub invariant-loop-place : goal.invariant-loop-place
invariant-loop-place l = StandAsRead l.samples l.numbers l.place
