-- All tries so far held nothing, and left each file as it is.
use Rattle.host_devices.specs.Told.{HasAsked}
use Rattle.std.specs.Prelude.{None}
use Rattle.record_file.specs.DiskStep.{HoldStill}
use Rattle.record_file.specs.Holding.{AreTries}
use Rattle.record_file.proofs.held_file.hold.Given as goal

abbrev pub invariant-loop : goal.invariant-loop
invariant-loop g l = HoldStill (g.D.Disk.holds l.fn.disk) (g.D.Disk.holds l.disk) × HasAsked (g.D.Disk.asked l.fn.disk) (g.D.Disk.asked l.disk) (AreTries l.fn.name l.counter None)
