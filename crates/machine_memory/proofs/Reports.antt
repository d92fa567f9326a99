-- How the report of a test comes to be.
use Rattle.std.proofs.Common.{◌≡◌, ℕ, ◌^◌, ◌<◌, List, [], Option, inl, inr, sym, subst}
use Rattle.std.specs.Io.KnownBytes.{Appends, Keeps}
use Rattle.std.proofs.KnownBytes.{Keeps-refl}
use Rattle.byte_io.specs.Output.{WritesAllBut, WritesPrefix}
use Rattle.host_devices.specs.Told.{Gains}
use Rattle.host_devices.specs.declared.item.Item.{Item}
use Rattle.tape_values.specs.Told.{IsAsTold}
use Rattle.memory_report.specs.Report.{memory_text}
use Rattle.machine_probe.specs.Runs.{OnLine}
use Rattle.machine_memory.specs.Course.{Standing, begun}
use Rattle.machine_memory.specs.Ending.{found_at, memory_end}
use Rattle.machine_memory.specs.Options.{IsAsked}
use Rattle.machine_memory.specs.Runs.{IsRow}
use Rattle.machine_memory.proofs.Believed.{believes}
use Rattle.machine_memory.proofs.OneLine.{believes_over}
use Rattle.host_devices.specs.Devices.{line_told}
use Rattle.host_devices.specs.declared.line.Line.{Ghosts as Line}
use Rattle.console_lines.specs.Dialling.{asked_once}
use Rattle.console_lines.specs.Console.{ConsoleTold}
use Rattle.request_values.specs.Change.{Change, ◌⇒◌}
use Rattle.machine_probe.specs.Probe.{OverLine, OverSome, said_on}
use Rattle.machine_probe.specs.ProbeFault.{way_of}
use Rattle.machine_memory.specs.declared.memory_end.MemoryEnd.{MemoryEnd}
use Rattle.machine_probe.specs.declared.probe_fault.ProbeFault.{ProbeFault}
use Rattle.machine_probe.specs.declared.probe_fault.ProbeFault.TheVariants.{Connect, Memory, WriteOutput}
use Rattle.machine_memory.specs.declared.memory_options.MemoryOptions.{MemoryOptions}
use Rattle.machine_memory.specs.MemoryFault.{IsMemoryFault, IsUnreported}
use Rattle.machine_memory.specs.Tested.{IsMemoryCutShort, IsMemoryTested, IsReport}

-- the hosts were led one after another, and this is the text of what they found
pub report_is : (options : MemoryOptions) (line line' : Option (List Item)) (first last : Standing) (text : List ℕ) (end : MemoryEnd) → options.patience < 2 ^ 32 → IsAsked options → first ≡ begun options.from → IsAsTold line [] →
    OnLine (IsRow options first last) line line' → text ≡ memory_text (found_at options last) → end ≡ memory_end (found_at options last) → IsReport options (line ⇒ line') text end
report_is options line line' first last text end long asked begins fresh row put is =
    let all : IsRow options (begun options.from) last row.parts = subst (λ (s : Standing). IsRow options s last row.parts) begins row.are in record {
      last = last;
      tested = record { fresh = fresh; parts = row.parts; row = all; on_line = row.on_line; believed = believes options last row.parts long asked all; believed_over = believes_over options last row.parts long asked all };
      text_is = put;
      end_is = is;
    }

-- ---- what is written of it

pub reported_of : {L : Type 0} (tell : Line L) (options : MemoryOptions) (before after : ConsoleTold) (text written : List ℕ) (end : MemoryEnd) →
    Gains before.asked after.asked (asked_once before.call) → OverLine tell (before.lines ⇒ after.lines) (λ line. IsReport options (said_on line) text end) → written ≡ text → Appends before.out after.out written →
    IsMemoryTested (OverLine tell) options (before ⇒ after) end
reported_of {L} tell options before after text written end asks (line, last, unused, given, report) is appended =
    (line, last, unused, given, record { asked = asks; text = text; report = report; reported = subst (Appends before.out after.out) is appended })

pub cut_of : {L : Type 0} (tell : Line L) (options : MemoryOptions) (before after : ConsoleTold) (text written : List ℕ) (end : MemoryEnd) →
    Gains before.asked after.asked (asked_once before.call) → OverLine tell (before.lines ⇒ after.lines) (λ line. IsReport options (said_on line) text end) → written ≡ text → WritesPrefix before.out after.out written →
    IsMemoryCutShort (OverLine tell) options (before ⇒ after)
cut_of {L} tell options before after text written end asks (line, last, unused, given, report) is (left, cut) = (
  line,
  last,
  unused,
  given,
  record { asked = asks; text = text; end = end; report = report; missing = left; reported = subst (λ (t : List ℕ). WritesAllBut before.out after.out t left) is cut },
)

-- a fault that came before there was a report
pub unreported_is : {L : Type 0} (tell : Line L) (options : MemoryOptions) (before after : ConsoleTold) (fault : ProbeFault) → after.out ≡ before.out →
    IsUnreported (OverLine tell) options (way_of before ⇒ way_of after) fault → IsMemoryFault (OverLine tell) options (before ⇒ after) fault
unreported_is {L} tell options before after Connect same is = (is, subst (Keeps before.out) (sym same) (Keeps-refl before.out))
unreported_is {L} tell options before after Memory same is = (is, subst (Keeps before.out) (sym same) (Keeps-refl before.out))
unreported_is {L} tell options before after WriteOutput same is = absurd is

-- ---- a line of a type is some line

pub some_tested : {L : Type 0} (tell : Line L) (options : MemoryOptions) (console : Change ConsoleTold) (end : MemoryEnd) → IsMemoryTested (OverLine tell) options console end → IsMemoryTested OverSome options console end
some_tested {L} tell options console end (line, last, unused, given, tested) = (line_told tell line, line_told tell last, unused, given, tested)

pub some_fault : {L : Type 0} (tell : Line L) (options : MemoryOptions) (console : Change ConsoleTold) (fault : ProbeFault) → IsMemoryFault (OverLine tell) options console fault → IsMemoryFault OverSome options console fault
some_fault {L} tell options console Connect is = is
some_fault {L} tell options console WriteOutput (line, last, unused, given, cut) = (line_told tell line, line_told tell last, unused, given, cut)
some_fault {L} tell options console Memory (inl unasked, kept) = (inl unasked, kept)
some_fault {L} tell options console Memory (inr (line, last, unused, given, broken), kept) = (inr (line_told tell line, line_told tell last, unused, given, broken), kept)
