-- What `probe` does (this project's own).
use Rattle.std.specs.Prelude.{◌≡◌, ℕ, List, [], ◌∷◌, Option}
use Rattle.std.specs.Io.KnownBytes.{Appends}
use Rattle.byte_io.specs.Output.{WritesAllBut}
use Rattle.host_devices.specs.declared.item.Item.{Item}
use Rattle.host_devices.specs.Told.{Gains}
use Rattle.host_devices.specs.declared.line.Line.{Ghosts as Line}
use Rattle.console_lines.specs.Dialling.{asked_once}
use Rattle.console_lines.specs.Console.{ConsoleTold}
use Rattle.console_lines.specs.Reached.{IsUnused}
use Rattle.host_devices.specs.Devices.{LineTold, line_told}
use Rattle.looking_law.specs.Rows.{in_a_row}
use Rattle.probe_report.specs.declared.findings.Findings.{Findings}
use Rattle.probe_report.specs.declared.pace.Pace.{Pace}
use Rattle.probe_report.specs.declared.probe_end.ProbeEnd.{ProbeEnd}
use Rattle.probe_report.specs.Ending.{probe_end}
use Rattle.probe_report.specs.Notes.{Noted}
use Rattle.probe_report.specs.ProbeText.{probe_text}
use Rattle.request_values.specs.Change.{Change, ◌⇒◌}
use Rattle.tape_values.specs.Told.{IsAsTold}
use Rattle.machine_probe.specs.declared.probe_options.ProbeOptions.{ProbeOptions}
use Rattle.machine_probe.specs.Belief.{AreBelievable, AreBelievableOver}
use Rattle.machine_probe.specs.Follow.{IsProbe}
use Rattle.machine_probe.specs.Left.{AreLeftBy}
use Rattle.machine_probe.specs.Noted.{AreNotesSince}

-- the runs of a probe were made over a line on which nothing was said before: these are their findings, and what was noted
pub record IsProbed (options : ProbeOptions) (line : Change (Option (List Item))) (f : Findings) (notes : Noted) : Type 0 where
  pub fresh : IsAsTold line.before []
  -- what was said in each run, and nothing else was said
  pub parts : List (List Item)
  pub runs : IsProbe options f parts
  pub on_line : Gains line.before line.after (in_a_row parts)
  pub believed : AreBelievable f parts
  pub believed_over : AreBelievableOver f parts
  -- all that was said was noted
  pub notes_are : AreNotesSince line.before line.after notes

-- what was said on a line, of all that it tells
abbrev pub said_on : Change LineTold → Change (Option (List Item))
said_on line = line.before.said ⇒ line.after.said

-- a text is the report of a probe over a line that told this and then that, and so the probe ended
pub record IsReport (options : ProbeOptions) (line : Change LineTold) (text : List ℕ) (end : ProbeEnd) : Type 0 where
  pub f : Findings
  pub notes : Noted
  pub pace : Pace
  pub probed : IsProbed options (said_on line) f notes
  -- where the line failed the findings name that fault, and nothing was done behind it
  pub left : AreLeftBy f line
  pub text_is : text ≡ probe_text f notes pace
  pub end_is : end ≡ probe_end f notes.prompt

-- the console was asked for once, and the report was written
pub record IsReportedOn (options : ProbeOptions) (line : Change LineTold) (console : Change ConsoleTold) (end : ProbeEnd) : Type 0 where
  pub asked : Gains console.before.asked console.after.asked (asked_once console.before.call)
  pub text : List ℕ
  pub report : IsReport options line text end
  pub reported : Appends console.before.out console.after.out text

-- the same, with a report that may be cut short
pub record IsCutShortOn (options : ProbeOptions) (line : Change LineTold) (console : Change ConsoleTold) : Type 0 where
  pub asked : Gains console.before.asked console.after.asked (asked_once console.before.call)
  pub text : List ℕ
  pub end : ProbeEnd
  pub report : IsReport options line text end
  pub missing : List ℕ
  pub reported : WritesAllBut console.before.out console.after.out text missing

-- what is said of a line that was given back: of what it told before it was used, and of what it tells since
abbrev pub OfLine : Type 1
OfLine = (lines : Change (Option (List LineTold))) (holds : Change LineTold → Type 0) → Type 0

-- it is said of a line of this type
abbrev pub OverLine : {L : Type 0} → Line L → OfLine
OverLine {L} tell lines holds =
    (line : L) × (last : L) × IsUnused (tell.told line) (tell.fault_count line) (tell.last_fault line)
    × Gains lines.before lines.after (line_told tell last ∷ []) × holds (line_told tell line ⇒ line_told tell last)

-- it is said of some line
abbrev pub OverSome : OfLine
OverSome lines holds =
    (line : LineTold) × (last : LineTold) × IsUnused line.said line.failures line.fault × Gains lines.before lines.after (last ∷ []) × holds (line ⇒ last)

-- a probe was reported, over a line on which nothing more was said until it was given back
abbrev pub IsProbeReported : OfLine → ProbeOptions → Change ConsoleTold → ProbeEnd → Type 0
IsProbeReported over options console end = over (console.before.lines ⇒ console.after.lines) (λ line. IsReportedOn options line console end)

-- the same, with a report that may be cut short
abbrev pub IsProbeCutShort : OfLine → ProbeOptions → Change ConsoleTold → Type 0
IsProbeCutShort over options console = over (console.before.lines ⇒ console.after.lines) (λ line. IsCutShortOn options line console)
