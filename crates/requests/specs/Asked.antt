-- What is asked of a system for a request, part by part, each where it tells.
use Rattle.std.specs.Prelude.{ℕ, List, Option, None}
use Rattle.console_lines.specs.Console.{ConsoleTold}
use Rattle.console_lines.specs.Dialling.{LineRequest}
use Rattle.console_lines.specs.Path.{call_to}
use Rattle.host_devices.specs.Devices.{LineTold}
use Rattle.input_files.specs.Inputs.{Known}
use Rattle.input_files.specs.Opening.{InputStep}
use Rattle.record_file.specs.DiskStep.{DiskStep}

-- what was asked of the disk, what was asked for lines, of the network and of the serial devices, and what the lines tell that were given back
pub record OutsideAsked : Type 0 where
  pub disk : Option (List DiskStep)
  pub for_lines : Option (List LineRequest)
  pub lines : Option (List LineTold)

-- what is told of the console of this name, with this quiet time, and of an output
abbrev pub console_of : List ℕ → ℕ → OutsideAsked → Known → ConsoleTold
console_of name quiet_ms outside out =
    record { asked = outside.for_lines; call = call_to name quiet_ms; lines = outside.lines; out = out }

-- what was asked of a system: which input files were opened, and what was asked of what lies outside
pub record SystemAsked : Type 0 where
  pub inputs : Option (List InputStep)
  pub outside : OutsideAsked

-- this was asked of its parts
abbrev pub asked_of : Option (List InputStep) → Option (List DiskStep) → Option (List LineRequest) → Option (List LineTold) → SystemAsked
asked_of inputs disk for_lines lines = record { inputs = inputs; outside = record { disk = disk; for_lines = for_lines; lines = lines } }

-- the same, and the system's disk, which may tell what its files hold
pub record SystemTold (Disk : Type 0) : Type 0 where
  pub asked : SystemAsked
  pub disk : Disk

abbrev pub system_told : {Disk : Type 0} → SystemAsked → Disk → SystemTold Disk
system_told asked disk = record { asked = asked; disk = disk }

-- what was asked of a system of which no part tells
abbrev pub untold : SystemAsked
untold = asked_of None None None None
