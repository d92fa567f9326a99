-- The samples so far are the words at their places.
use Rattle.std.proofs.Common.{◌≡◌, ◌≤◌, vec_capacity}
use Rattle.sample_looks.proofs.Spread.{words_at}
use Rattle.machine_load.proofs.looks.samples_in.Given as goal

abbrev pub invariant-loop-i : goal.invariant-loop-i
invariant-loop-i l = record {
  so_far : l.samples.items ≡ words_at l.words l.count l.i;
  room : 8 ≤ vec_capacity l.samples;
}
