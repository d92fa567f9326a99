-- The samples so far are the words at their places.
use Rattle.std.proofs.Common.{◌≡◌, length}
use Rattle.sample_looks.proofs.Spread.{words_at}
use Rattle.machine_look.specs.Behind.{addresses_in}
use Rattle.machine_look.specs.SavedWords.{words_read}
use Rattle.machine_look.proofs.hosts.samples_of_found.Given as goal

abbrev pub invariant-loop-i : goal.invariant-loop-i
invariant-loop-i l = l.samples.items ≡ words_at (words_read (addresses_in l.fn.range) l.fn.found) (length l.fn.found) l.i
