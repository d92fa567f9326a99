-- The addresses so far are those before this one.
use Rattle.std.proofs.Common.{◌≡◌}
use Rattle.reading_core.specs.Addresses.{addresses_from}
use Rattle.reading_core.proofs.reading.ReadingCore.of_range.Given as goal

abbrev pub invariant-loop-number : goal.invariant-loop-number
invariant-loop-number l = l.addresses.items ≡ addresses_from l.fn.from l.number
