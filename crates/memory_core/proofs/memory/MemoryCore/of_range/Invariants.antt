-- The addresses so far are those before this one.
use Rattle.std.proofs.Common.{◌≡◌, ◌*◌}
use Rattle.memory_core.specs.Addresses.{addresses_by}
use Rattle.memory_core.proofs.memory.MemoryCore.of_range.Given as goal

abbrev pub invariant-loop-number : goal.invariant-loop-number
invariant-loop-number l = l.addresses.items ≡ addresses_by l.fn.from (2 * l.fn.every) l.number
