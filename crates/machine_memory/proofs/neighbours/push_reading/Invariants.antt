-- The words so far.
use Rattle.std.proofs.Common.{◌≡◌, ◌++◌, take}
use Rattle.machine_memory.specs.Bus.{reading}
use Rattle.machine_memory.proofs.neighbours.push_reading.Given as goal

abbrev pub invariant-loop-place : goal.invariant-loop-place
invariant-loop-place l = l.found.items ≡ l.initial.found.items ++ reading l.fn.number l.addresses (take l.place l.values)
