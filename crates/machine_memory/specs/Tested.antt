-- What `memory` does (this project's own).
use Rattle.std.specs.Prelude.{◌≡◌, ℕ, List, [], Option}
use Rattle.std.specs.Io.KnownBytes.{Appends}
use Rattle.byte_io.specs.Output.{WritesAllBut}
use Rattle.host_devices.specs.declared.item.Item.{Item}
use Rattle.host_devices.specs.Told.{Gains}
use Rattle.console_lines.specs.Dialling.{asked_once}
use Rattle.console_lines.specs.Console.{ConsoleTold}
use Rattle.looking_law.specs.Rows.{in_a_row}
use Rattle.memory_report.specs.Report.{memory_text}
use Rattle.request_values.specs.Change.{Change, ◌⇒◌}
use Rattle.tape_values.specs.Told.{IsAsTold}
use Rattle.machine_probe.specs.Probe.{OfLine, said_on}
use Rattle.machine_memory.specs.declared.memory_end.MemoryEnd.{MemoryEnd}
use Rattle.machine_memory.specs.declared.memory_options.MemoryOptions.{MemoryOptions}
use Rattle.machine_memory.specs.Belief.{AreBelievable, AreBelievableOver}
use Rattle.machine_memory.specs.Course.{Standing, begun}
use Rattle.machine_memory.specs.Ending.{found_at, memory_end}
use Rattle.machine_memory.specs.Runs.{IsRow}

-- the hosts of a test were led over a line on which nothing was said before, one after another: this was found, and nothing else was said
pub record IsTested (options : MemoryOptions) (line : Change (Option (List Item))) (last : Standing) : Type 0 where
  pub fresh : IsAsTold line.before []
  pub parts : List (List Item)
  pub row : IsRow options (begun options.from) last parts
  pub on_line : Gains line.before line.after (in_a_row parts)
  -- over honest lines memory is what it was, but for the word that is named, and what was read is true
  pub believed : AreBelievable last parts
  pub believed_over : AreBelievableOver last parts

-- a text is the report of a test over a line that told this and then that, and so the test ended
pub record IsReport (options : MemoryOptions) (line : Change (Option (List Item))) (text : List ℕ) (end : MemoryEnd) : Type 0 where
  pub last : Standing
  pub tested : IsTested options line last
  pub text_is : text ≡ memory_text (found_at options last)
  pub end_is : end ≡ memory_end (found_at options last)

-- the console was asked for once, and the report was written
pub record IsReportedOn (options : MemoryOptions) (line : Change (Option (List Item))) (console : Change ConsoleTold) (end : MemoryEnd) : Type 0 where
  pub asked : Gains console.before.asked console.after.asked (asked_once console.before.call)
  pub text : List ℕ
  pub report : IsReport options line text end
  pub reported : Appends console.before.out console.after.out text

-- the same, with a report that may be cut short
pub record IsCutShortOn (options : MemoryOptions) (line : Change (Option (List Item))) (console : Change ConsoleTold) : Type 0 where
  pub asked : Gains console.before.asked console.after.asked (asked_once console.before.call)
  pub text : List ℕ
  pub end : MemoryEnd
  pub report : IsReport options line text end
  pub missing : List ℕ
  pub reported : WritesAllBut console.before.out console.after.out text missing

-- a test was reported, over a line on which nothing more was said until it was given back
abbrev pub IsMemoryTested : OfLine → MemoryOptions → Change ConsoleTold → MemoryEnd → Type 0
IsMemoryTested over options console end = over (console.before.lines ⇒ console.after.lines) (λ line. IsReportedOn options (said_on line) console end)

-- the same, with a report that may be cut short
abbrev pub IsMemoryCutShort : OfLine → MemoryOptions → Change ConsoleTold → Type 0
IsMemoryCutShort over options console = over (console.before.lines ⇒ console.after.lines) (λ line. IsCutShortOn options (said_on line) console)
