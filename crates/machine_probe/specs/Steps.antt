-- One pass, as the search takes it.
use Rattle.std.specs.Prelude.{◌≡◌, ℕ, ◌+◌, ◌*◌, ◌%◌, ◌≤◌, List, Option, None, ⊤}
use Rattle.host_devices.specs.declared.item.Item.{Item}
use Rattle.host_devices.specs.Devices.{LineTold}
use Rattle.host_devices.specs.Failures.{CountsFault, IsLastFault}
use Rattle.host_devices.specs.Told.{Gains}
use Rattle.reading_core.specs.Invariant.{IsReader}
use Rattle.looking_engine.specs.Stopping.{LookStop, line_fault}
use Rattle.machine_probe.specs.declared.memory_end.PassEnd.{PassEnd}
use Rattle.machine_probe.specs.declared.memory_end.PassEnd.TheVariants.{Lacking, Over}
use Rattle.machine_probe.specs.declared.pieces.Pieces.{Pieces}
use Rattle.machine_probe.specs.MemoryEnd.{stop_of}
use Rattle.machine_probe.specs.Passes.{CameTo, Pass, reader_of}

-- a piece that lacks its last word is one of the pieces
abbrev pub LiesWithin : ℕ → Pieces → PassEnd → Type 0
LiesWithin from pieces (Lacking next) = (next % 2 ≡ 0) × (next + pieces.bytes ≤ from + pieces.bytes * pieces.count)
LiesWithin from pieces (Over search) = ⊤

-- the stop that ended the search in this pass, if one did
abbrev pub stop_in : PassEnd → Option LookStop
stop_in (Lacking next) = None
stop_in (Over search) = stop_of search

-- a pass came to this, and so many characters that no loss explains, with what the line told before and tells after
pub record Stepped (pass : Pass) (result : PassEnd) (changed : ℕ) (before after : LineTold) : Type 0 where
  pub said : List Item
  pub came : CameTo pass result changed said
  pub reads : IsReader (reader_of pass)
  pub within : LiesWithin pass.from pass.pieces result
  pub on_line : Gains before.said after.said said
  pub counted : CountsFault (line_fault (stop_in result)) before.failures after.failures
  pub named : IsLastFault (line_fault (stop_in result)) after.fault
