-- What is told of a load's line once it was given back.
use Rattle.std.specs.Prelude.{◌≡◌, List, [], ◌∷◌, Option, Some, None}
use Rattle.host_devices.specs.Told.{Gains}
use Rattle.host_devices.specs.Devices.{LineTold}
use Rattle.console_lines.specs.Reached.{IsUnused}
use Rattle.machine_load.specs.declared.looks.Looks.{Looks}
use Rattle.machine_load.specs.Asked.{Opened}
use Rattle.machine_load.specs.Looks.{AreLooks, asks_for_highest}
use Rattle.sample_looks.specs.declared.finding.Finding.TheVariants.{AllStand}

-- a line was given back on which nothing was said but the looks of a life, which found that all words stand
pub record GivesLooked (life : Opened) (lines lines' : Option (List LineTold)) : Type 0 where
  pub line : LineTold
  pub fresh : IsUnused line.said line.failures line.fault
  pub looks : Looks
  pub behind : LineTold
  pub looked : AreLooks life.first (asks_for_highest life) looks line behind
  pub all_stand : looks.finding ≡ AllStand
  pub given : Gains lines lines' (behind ∷ [])

-- a line was given back, where there was one
abbrev pub IsGivenBack : Option (List LineTold) → Option (List LineTold) → Option LineTold → Type 0
IsGivenBack lines lines' None = lines' ≡ lines
IsGivenBack lines lines' (Some line) = Gains lines lines' (line ∷ [])
