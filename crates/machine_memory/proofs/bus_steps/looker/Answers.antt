use Rattle.std.proofs.Common.{subst, sym}
use Rattle.reading_core.specs.Addresses.{AreAddresses}
use Rattle.machine_memory.proofs.Readings.{neighbours_asked}
use Rattle.machine_memory.proofs.bus_steps.looker.Goals as goal

pub in_room-requires-clause-asked : goal.in_room-requires-clause-asked
in_room-requires-clause-asked c = subst AreAddresses (sym c.in_ok-addresses.ensures) (neighbours_asked c.args.at c.args.first c.requires)
