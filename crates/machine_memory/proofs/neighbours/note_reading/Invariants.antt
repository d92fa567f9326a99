-- The words so far, and how much room they leave.
use Rattle.std.proofs.Common.{◌≡◌, ◌≤◌, ◌+◌, ◌++◌, length, take}
use Rattle.std.specs.Prelude.{vec_capacity}
use Rattle.machine_memory.specs.Bus.{reading}
use Rattle.machine_memory.proofs.neighbours.note_reading.Given as goal

abbrev pub invariant-loop-place : goal.invariant-loop-place
invariant-loop-place l =
    (l.found.items ≡ l.initial.found.items ++ reading l.fn.number l.addresses (take l.place l.values))
    × (length l.found.items ≤ length l.initial.found.items + l.place) × (vec_capacity l.initial.found ≤ vec_capacity l.found)
