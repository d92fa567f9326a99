-- How the report of a probe comes to be.
use Rattle.std.proofs.Common.{◌≡◌, ℕ, ◌^◌, ◌<◌, List, [], Option, inl, inr, sym, subst}
use Rattle.std.specs.Io.KnownBytes.{Appends, Keeps}
use Rattle.std.proofs.KnownBytes.{Keeps-refl}
use Rattle.byte_io.specs.Output.{WritesAllBut, WritesPrefix}
use Rattle.host_devices.specs.Told.{Gains}
use Rattle.host_devices.specs.declared.item.Item.{Item}
use Rattle.host_devices.specs.declared.line.Line.{Ghosts as Line}
use Rattle.console_lines.specs.Dialling.{asked_once}
use Rattle.probe_report.specs.declared.findings.Findings.{Findings}
use Rattle.probe_report.specs.declared.pace.Pace.{Pace}
use Rattle.probe_report.specs.declared.probe_end.ProbeEnd.{ProbeEnd}
use Rattle.probe_report.specs.Ending.{probe_end}
use Rattle.probe_report.specs.Notes.{Noted}
use Rattle.probe_report.specs.ProbeText.{probe_text}
use Rattle.request_values.specs.Change.{Change, ◌⇒◌}
use Rattle.reading_core.specs.Addresses.{IsAddress}
use Rattle.tape_values.specs.Told.{IsAsTold}
use Rattle.machine_probe.specs.declared.probe_options.ProbeOptions.{ProbeOptions}
use Rattle.machine_probe.specs.Follow.{IsProbe}
use Rattle.machine_probe.specs.Left.{AreLeftBy}
use Rattle.machine_probe.specs.Noted.{AreNotesSince}
use Rattle.console_lines.specs.Console.{ConsoleTold}
use Rattle.host_devices.specs.Devices.{LineTold, line_told}
use Rattle.machine_probe.specs.Probe.{IsProbeCutShort, IsReport, IsProbeReported, OverLine, OverSome}
use Rattle.machine_probe.specs.ProbeFault.{way_of, IsProbeFault, IsUnreported}
use Rattle.machine_probe.specs.declared.probe_fault.ProbeFault.{ProbeFault}
use Rattle.machine_probe.specs.declared.probe_fault.ProbeFault.TheVariants.{Connect, Memory, WriteOutput}
use Rattle.machine_probe.specs.Runs.{OnLine}
use Rattle.machine_probe.proofs.Believed.{believes}
use Rattle.machine_probe.proofs.OneLine.{believes_over}

report_is : (options : ProbeOptions) (line line' : LineTold) (f : Findings) (notes : Noted) (pace : Pace) (text : List ℕ) (end : ProbeEnd) →
    IsAddress options.address → options.patience < 2 ^ 32 → IsAsTold line.said [] → OnLine (IsProbe options f) line.said line'.said → AreLeftBy f (line ⇒ line') → AreNotesSince line.said line'.said notes →
    text ≡ probe_text f notes pace → end ≡ probe_end f notes.prompt → IsReport options (line ⇒ line') text end
report_is options line line' f notes pace text end address long fresh runs left are put is = record {
  f = f;
  notes = notes;
  pace = pace;
  probed = record {
    fresh = fresh;
    parts = runs.parts;
    runs = runs.are;
    on_line = runs.on_line;
    believed = believes options f runs.parts address long runs.are;
    believed_over = believes_over options f runs.parts address long runs.are;
    notes_are = are;
  };
  left = left;
  text_is = put;
  end_is = is;
}

-- the same of a line that was noted
pub report_from : (options : ProbeOptions) (line line' : LineTold) (first : Option (List Item)) (f : Findings) (notes : Noted) (pace : Pace) (text : List ℕ) (end : ProbeEnd) →
    IsAddress options.address → options.patience < 2 ^ 32 → IsAsTold line.said [] → line.said ≡ first → OnLine (IsProbe options f) line.said line'.said → AreLeftBy f (line ⇒ line') → AreNotesSince first line'.said notes →
    text ≡ probe_text f notes pace → end ≡ probe_end f notes.prompt → IsReport options (line ⇒ line') text end
report_from options line line' first f notes pace text end address long fresh opening runs left are put is =
    report_is options line line' f notes pace text end address long fresh runs left
    (subst (λ (o : Option (List Item)). AreNotesSince o line'.said notes) (sym opening) are) put is

-- ---- what is written of it

pub reported_of : {L : Type 0} (tell : Line L) (options : ProbeOptions) (before after : ConsoleTold) (text written : List ℕ) (end : ProbeEnd) →
    Gains before.asked after.asked (asked_once before.call) → OverLine tell (before.lines ⇒ after.lines) (λ line. IsReport options line text end) → written ≡ text → Appends before.out after.out written →
    IsProbeReported (OverLine tell) options (before ⇒ after) end
reported_of {L} tell options before after text written end asks (line, last, unused, given, report) is appended =
    (line, last, unused, given, record { asked = asks; text = text; report = report; reported = subst (Appends before.out after.out) is appended })

pub cut_of : {L : Type 0} (tell : Line L) (options : ProbeOptions) (before after : ConsoleTold) (text written : List ℕ) (end : ProbeEnd) →
    Gains before.asked after.asked (asked_once before.call) → OverLine tell (before.lines ⇒ after.lines) (λ line. IsReport options line text end) → written ≡ text → WritesPrefix before.out after.out written →
    IsProbeCutShort (OverLine tell) options (before ⇒ after)
cut_of {L} tell options before after text written end asks (line, last, unused, given, report) is (left, cut) = (
  line,
  last,
  unused,
  given,
  record { asked = asks; text = text; end = end; report = report; missing = left; reported = subst (λ (t : List ℕ). WritesAllBut before.out after.out t left) is cut },
)

-- a fault that came before there was a report
pub unreported_is : {L : Type 0} (tell : Line L) (options : ProbeOptions) (before after : ConsoleTold) (fault : ProbeFault) → after.out ≡ before.out →
    IsUnreported (OverLine tell) options (way_of before ⇒ way_of after) fault → IsProbeFault (OverLine tell) options (before ⇒ after) fault
unreported_is {L} tell options before after Connect same is = (is, subst (Keeps before.out) (sym same) (Keeps-refl before.out))
unreported_is {L} tell options before after Memory same is = (is, subst (Keeps before.out) (sym same) (Keeps-refl before.out))
unreported_is {L} tell options before after WriteOutput same is = absurd is

-- ---- a line of a type is some line

pub some_reported : {L : Type 0} (tell : Line L) (options : ProbeOptions) (console : Change ConsoleTold) (end : ProbeEnd) → IsProbeReported (OverLine tell) options console end → IsProbeReported OverSome options console end
some_reported {L} tell options console end (line, last, unused, given, reported) = (line_told tell line, line_told tell last, unused, given, reported)

pub some_fault : {L : Type 0} (tell : Line L) (options : ProbeOptions) (console : Change ConsoleTold) (fault : ProbeFault) → IsProbeFault (OverLine tell) options console fault → IsProbeFault OverSome options console fault
some_fault {L} tell options console Connect is = is
some_fault {L} tell options console WriteOutput (line, last, unused, given, cut) = (line_told tell line, line_told tell last, unused, given, cut)
some_fault {L} tell options console Memory (inl unasked, kept) = (inl unasked, kept)
some_fault {L} tell options console Memory (inr (line, last, unused, given, broken), kept) = (inr (line_told tell line, line_told tell last, unused, given, broken), kept)
