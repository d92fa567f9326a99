-- The addresses so far are those of the words before this one.
use Rattle.std.proofs.Common.{◌≡◌, ◌≤◌, take, vec_capacity}
use Rattle.reading_core.specs.Addresses.{addresses_of}
use Rattle.machine_load.proofs.looks.addresses_in.Given as goal

abbrev pub invariant-loop-sample : goal.invariant-loop-sample
invariant-loop-sample l = record {
  so_far : l.addresses.items ≡ addresses_of (take l.sample-index l.samples);
  room : 9 ≤ vec_capacity l.addresses;
}
