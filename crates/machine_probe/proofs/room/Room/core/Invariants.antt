-- The addresses so far are the last words of the pieces before this one.
use Rattle.std.proofs.Common.{◌≡◌, ◌≤◌, vec_capacity}
use Rattle.machine_probe.specs.Passes.{last_words}
use Rattle.machine_probe.proofs.room.Room.core.Given as goal

abbrev pub invariant-loop-number : goal.invariant-loop-number
invariant-loop-number l = record {
  so_far : l.addresses.items ≡ last_words l.fn.from l.fn.pieces.bytes l.number;
  room : l.fn.pieces.count ≤ vec_capacity l.addresses;
}
