-- The addresses so far are those of the words before this one.
use Rattle.std.proofs.Common.{◌≡◌, take}
use Rattle.reading_core.specs.Addresses.{addresses_of}
use Rattle.sample_looks.proofs.looking.reader_of.Given as goal

abbrev pub invariant-loop-sample : goal.invariant-loop-sample
invariant-loop-sample l = l.addresses.items ≡ addresses_of (take l.sample-index l.samples)
