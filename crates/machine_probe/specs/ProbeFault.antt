-- How a probe comes to nothing, and what was done before (this project's own).
use Rattle.std.specs.Prelude.{◌≡◌, ◌⊎◌, List, [], Option}
use Rattle.std.specs.Io.KnownBytes.{Keeps}
use Rattle.host_devices.specs.Told.{Gains}
use Rattle.host_devices.specs.declared.item.Item.{Item}
use Rattle.request_values.specs.Change.{Change, ◌⇒◌}
use Rattle.console_lines.specs.Dialling.{Call, LineRequest, IsAskedInVain, asked_once}
use Rattle.tape_values.specs.Told.{IsAsTold}
use Rattle.machine_probe.specs.declared.probe_fault.ProbeFault.{ProbeFault}
use Rattle.machine_probe.specs.declared.probe_fault.ProbeFault.TheVariants.{Connect, WriteOutput, Memory}
use Rattle.machine_probe.specs.declared.probe_options.ProbeOptions.{ProbeOptions}
use Rattle.machine_probe.specs.Follow.{IsBrokenOff}
use Rattle.console_lines.specs.Console.{ConsoleTold}
use Rattle.host_devices.specs.Devices.{LineTold}
use Rattle.console_lines.specs.declared.consoles.Consoles.{Ghosts as Consoles}
use Rattle.machine_probe.specs.Probe.{IsProbeCutShort, OfLine, said_on}
use Rattle.machine_probe.specs.Runs.{OnLine}

-- what a way to a console tells: what was asked for a line, where that one leads, and what the lines tell that were given back
pub record WayTold : Type 0 where
  pub asked : Option (List LineRequest)
  pub call : Call
  pub lines : Option (List LineTold)

-- what these consoles tell, of which this one is called
abbrev pub way_told : {C L : Type 0} → Consoles C L → Call → C → WayTold
way_told tell call consoles = record { asked = tell.asked consoles; call = call; lines = tell.lines consoles }

-- the same of a console and an output
abbrev pub way_of : ConsoleTold → WayTold
way_of console = record { asked = console.asked; call = console.call; lines = console.lines }

-- no console was asked for, and there was no line
pub record IsUnasked (way : Change WayTold) : Type 0 where
  pub not_asked : way.after.asked ≡ way.before.asked
  pub no_line : way.after.lines ≡ way.before.lines

-- a probe was broken off over a line on which nothing had been said before
pub record IsBrokenOffOn (options : ProbeOptions) (line : Change (Option (List Item))) (way : Change WayTold) : Type 0 where
  pub asked : Gains way.before.asked way.after.asked (asked_once way.before.call)
  pub fresh : IsAsTold line.before []
  pub runs : OnLine (IsBrokenOff options) line.before line.after

-- where memory was wanting: before the console was asked for, or once it was reached, over a line that was given back
abbrev pub IsWanting : OfLine → ProbeOptions → Change WayTold → Type 0
IsWanting over options way = IsUnasked way ⊎ over (way.before.lines ⇒ way.after.lines) (λ line. IsBrokenOffOn options (said_on line) way)

-- what makes it come to nothing before there is a report
abbrev pub IsUnreported : OfLine → ProbeOptions → Change WayTold → ProbeFault → Type 0
IsUnreported over options way Connect = IsAskedInVain way.before.call way.before.asked way.after.asked × (way.after.lines ≡ way.before.lines)
IsUnreported over options way Memory = IsWanting over options way
IsUnreported over options way other = ⊥

-- a console that can't be reached and want of memory before anything is written, a report that can't be written whole last
abbrev pub IsProbeFault : OfLine → ProbeOptions → Change ConsoleTold → ProbeFault → Type 0
IsProbeFault over options console WriteOutput = IsProbeCutShort over options console
IsProbeFault over options console fault =
    IsUnreported over options (way_of console.before ⇒ way_of console.after) fault × Keeps console.before.out console.after.out
