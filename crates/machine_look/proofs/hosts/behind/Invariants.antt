-- The addresses so far follow one another.
use Rattle.std.proofs.Common.{◌≡◌}
use Rattle.reading_core.specs.Addresses.{addresses_from}
use Rattle.machine_look.proofs.hosts.behind.Given as goal

abbrev pub invariant-loop-number : goal.invariant-loop-number
invariant-loop-number l = l.addresses.items ≡ addresses_from l.first l.number
