-- What devices tell at a moment.
use Rattle.std.specs.Prelude.{ℕ, List, Option}
use Rattle.host_devices.specs.declared.fault.LineFault.{LineFault}
use Rattle.host_devices.specs.declared.item.Item.{Item}
use Rattle.host_devices.specs.declared.item.Kept.{Kept}
use Rattle.host_devices.specs.declared.keep.Keep.{Ghosts as Keep}
use Rattle.host_devices.specs.declared.line.Line.{Ghosts as Line}

-- what a line tells at a moment: what was said on it, how many calls of it failed, and the fault of the last one
pub record LineTold : Type 0 where
  pub said : Option (List Item)
  pub failures : ℕ
  pub fault : Option LineFault

-- what a line tells
abbrev pub line_told : {L : Type 0} → Line L → L → LineTold
line_told tell line = record { said = tell.told line; failures = tell.fault_count line; fault = tell.last_fault line }

-- what a line tells at a moment, and what was kept so far, where the keeper tells it
pub record Devices : Type 0 where
  pub line : LineTold
  pub kept : Option (List Kept)

abbrev pub devices : LineTold → Option (List Kept) → Devices
devices line kept = record { line = line; kept = kept }

-- a line and a keeper at a moment
abbrev pub devices_of : {L K : Type 0} → Line L → Keep K → L → K → Devices
devices_of tell keep line keeper = devices (line_told tell line) (keep.told keeper)
