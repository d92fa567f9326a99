-- What is known at a moment, before something is done or behind it, and what was not asked meanwhile.
use Rattle.std.specs.Prelude.{◌≡◌, ℕ, List, Option}
use Rattle.console_lines.specs.Console.{ConsoleTold}
use Rattle.console_lines.specs.Dialling.{Call}
use Rattle.console_lines.specs.Path.{call_to}
use Rattle.endings.specs.Held.{Held}
use Rattle.input_files.specs.Intake.{Intake, intake}
use Rattle.record_file.specs.DiskStep.{DiskStep}
use Rattle.request_values.specs.Change.{Change, ◌⇒◌}
use Rattle.request_values.specs.declared.machine.Look.{Look}
use Rattle.requests.specs.Asked.{SystemAsked, SystemTold, console_of}

-- what was asked of the system, what each name's file on its disk holds, as far as that is told, and what the standard streams hold
pub record Moment : Type 0 where
  pub asked : SystemAsked
  pub holds : List ℕ → Option (List ℕ)
  pub held : Held

-- the moment at which a system tells this, whose disk tells what its files hold, and the streams hold this
abbrev pub moment : {Disk : Type 0} → (Disk → List ℕ → Option (List ℕ)) → SystemTold Disk → Held → Moment
moment holds system held = record { asked = system.asked; holds = holds system.disk; held = held }

-- what is known of the intake at a moment
abbrev pub intake_at : Moment → Intake
intake_at known = intake known.asked.inputs known.held

-- where the line to the console leads that a look is meant for
abbrev pub call_for : Look → Call
call_for look = call_to look.line.now look.quiet_ms

-- what is told of that console, and of standard output
abbrev pub console_at : Look → Moment → ConsoleTold
console_at look known = console_of look.line.now look.quiet_ms known.asked.outside known.held.out

-- the same before and after
abbrev pub consoles_at : Look → Change Moment → Change ConsoleTold
consoles_at look moments = console_at look moments.before ⇒ console_at look moments.after

-- nothing was asked of disk and consoles
abbrev pub AsksNobody : Change Moment → Type 0
AsksNobody moments = moments.after.asked.outside ≡ moments.before.asked.outside

-- nothing was asked of the disk
abbrev pub AsksNoDisk : Change Moment → Type 0
AsksNoDisk moments = moments.after.asked.outside.disk ≡ moments.before.asked.outside.disk

-- no console was asked for
pub record AsksNoConsole (moments : Change Moment) : Type 0 where
  pub for_lines : moments.after.asked.outside.for_lines ≡ moments.before.asked.outside.for_lines
  pub lines : moments.after.asked.outside.lines ≡ moments.before.asked.outside.lines

-- no input was opened or read
pub record TakesNoInput (moments : Change Moment) : Type 0 where
  pub no_file : moments.after.asked.inputs ≡ moments.before.asked.inputs
  pub nothing_read : moments.after.held.input ≡ moments.before.held.input
