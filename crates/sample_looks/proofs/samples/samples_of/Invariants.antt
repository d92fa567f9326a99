-- The samples so far are the words at their places.
use Rattle.std.proofs.Common.{◌≡◌}
use Rattle.sample_looks.proofs.Spread.{words_at}
use Rattle.sample_looks.proofs.samples.samples_of.Given as goal

abbrev pub invariant-loop-i : goal.invariant-loop-i
invariant-loop-i l = l.samples.items ≡ words_at l.words l.count l.i
