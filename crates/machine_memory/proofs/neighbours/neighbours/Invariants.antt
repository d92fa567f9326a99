-- The words so far.
use Rattle.std.proofs.Common.{◌≡◌}
use Rattle.std.specs.List.{filter}
use Rattle.reading_core.specs.Addresses.{addresses_from}
use Rattle.machine_memory.specs.Bus.{is_neighbour}
use Rattle.machine_memory.proofs.neighbours.neighbours.Given as goal

abbrev pub invariant-loop-number : goal.invariant-loop-number
invariant-loop-number l = l.list.items ≡ filter (is_neighbour l.fn.at) (addresses_from l.fn.first l.number)
