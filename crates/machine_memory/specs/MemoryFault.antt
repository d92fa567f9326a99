-- How a test of memory comes to nothing, and what was done before (this project's own).
use Rattle.std.specs.Prelude.{◌≡◌, ◌⊎◌, List, [], Option}
use Rattle.std.specs.Io.KnownBytes.{Keeps}
use Rattle.host_devices.specs.Told.{Gains}
use Rattle.host_devices.specs.declared.item.Item.{Item}
use Rattle.request_values.specs.Change.{Change, ◌⇒◌}
use Rattle.console_lines.specs.Dialling.{IsAskedInVain, asked_once}
use Rattle.console_lines.specs.Console.{ConsoleTold}
use Rattle.tape_values.specs.Told.{IsAsTold}
use Rattle.machine_probe.specs.Probe.{OfLine, said_on}
use Rattle.machine_probe.specs.ProbeFault.{IsUnasked, WayTold, way_of}
use Rattle.machine_probe.specs.Runs.{OnLine}
use Rattle.machine_probe.specs.declared.probe_fault.ProbeFault.{ProbeFault}
use Rattle.machine_probe.specs.declared.probe_fault.ProbeFault.TheVariants.{Connect, WriteOutput, Memory}
use Rattle.machine_memory.specs.declared.memory_options.MemoryOptions.{MemoryOptions}
use Rattle.machine_memory.specs.Course.{begun}
use Rattle.machine_memory.specs.Runs.{IsCut}
use Rattle.machine_memory.specs.Tested.{IsMemoryCutShort}

-- a test was cut off over a line on which nothing had been said before
pub record IsCutOn (options : MemoryOptions) (line : Change (Option (List Item))) (way : Change WayTold) : Type 0 where
  pub asked : Gains way.before.asked way.after.asked (asked_once way.before.call)
  pub fresh : IsAsTold line.before []
  pub runs : OnLine (IsCut options (begun options.from)) line.before line.after

-- where memory was wanting: before the console was asked for, or once it was reached, over a line that was given back
abbrev pub IsWanting : OfLine → MemoryOptions → Change WayTold → Type 0
IsWanting over options way = IsUnasked way ⊎ over (way.before.lines ⇒ way.after.lines) (λ line. IsCutOn options (said_on line) way)

-- what makes it come to nothing before there is a report
abbrev pub IsUnreported : OfLine → MemoryOptions → Change WayTold → ProbeFault → Type 0
IsUnreported over options way Connect = IsAskedInVain way.before.call way.before.asked way.after.asked × (way.after.lines ≡ way.before.lines)
IsUnreported over options way Memory = IsWanting over options way
IsUnreported over options way other = ⊥

-- a console that can't be reached and want of memory before anything is written, a report that can't be written whole last
abbrev pub IsMemoryFault : OfLine → MemoryOptions → Change ConsoleTold → ProbeFault → Type 0
IsMemoryFault over options console WriteOutput = IsMemoryCutShort over options console
IsMemoryFault over options console fault =
    IsUnreported over options (way_of console.before ⇒ way_of console.after) fault × Keeps console.before.out console.after.out
