-- What a probe prints (this project's own): a line for each thing that is known.
use Rattle.std.specs.Prelude.{ℕ, ◌+◌, ◌-◌, ◌/◌, ◌^◌, ◌==◌, Bool, true, false, nat_lt, min, if◌then◌else◌, List, [], ◌++◌, codes, decimal, Option, Some}
use Rattle.octal.specs.Octal.{octal_text}
use Rattle.byte_io.specs.Text.{line}
use Rattle.engine.specs.Stopping.{cut_name}
use Rattle.probe_report.specs.declared.findings.Changes.{Changes}
use Rattle.probe_report.specs.declared.findings.Findings.{Findings}
use Rattle.probe_report.specs.declared.findings.Extent.{Extent}
use Rattle.probe_report.specs.declared.findings.Extent.TheVariants.{Top}
use Rattle.probe_report.specs.declared.findings.Sighting.{Sighting}
use Rattle.probe_report.specs.declared.findings.Sighting.TheVariants.{Number}
use Rattle.probe_report.specs.declared.pace.Pace.{Pace}
use Rattle.probe_report.specs.declared.probe_end.ProbeEnd.{ProbeEnd}
use Rattle.probe_report.specs.declared.probe_end.ProbeEnd.TheVariants as end
use Rattle.probe_report.specs.declared.judging.Verdict.{Verdict}
use Rattle.probe_report.specs.declared.judging.Verdict.TheVariants.{Forgets, Stores, Unknown}
use Rattle.probe_report.specs.Ending.{probe_end}
use Rattle.probe_report.specs.HeardText.{heard_lines}
use Rattle.probe_report.specs.Notes.{Noted}
use Rattle.probe_report.specs.Pace.{key_lines, load_lines}
use Rattle.probe_report.specs.StyleText.{style_lines}
use Rattle.probe_report.specs.Judging.{verdict_of}

-- whether a prompt was heard
abbrev pub prompt_line : Bool → List ℕ
prompt_line true = codes "prompt yes"
prompt_line false = codes "prompt no"

-- whether the console forgets digits at an illegal key
abbrev pub verdict_text : Verdict → List ℕ
verdict_text Forgets = codes "forgets digits yes"
verdict_text Stores = codes "forgets digits no: do not load this machine"
verdict_text Unknown = codes "forgets digits not known"

-- the word holds its number again, which was put back
abbrev pub holds_again : ℕ → ℕ → List ℕ
holds_again address old = codes "the word at " ++ octal_text address ++ codes " holds " ++ octal_text old ++ codes " again"

-- what the word held, where nothing else is sure
abbrev pub held_once : ℕ → ℕ → List ℕ
held_once address old = codes "the word at " ++ octal_text address ++ codes " held " ++ octal_text old ++ codes ", now look at it"

-- what became of the word: nothing is said of it where the console forgets
abbrev pub word_lines : ℕ → ℕ → Verdict → Option Bool → List ℕ
word_lines address old Forgets put_back = []
word_lines address old Stores (Some true) = line (holds_again address old)
word_lines address old verdict put_back = line (held_once address old)

-- both, where a first look read the word
abbrev pub trust_lines : Findings → Sighting → List ℕ
trust_lines f (Number old) = line (verdict_text (verdict_of f)) ++ word_lines f.address old (verdict_of f) f.put_back
trust_lines f first = []

-- memory from 000000 to its last word
abbrev pub extent_text : ℕ → List ℕ
extent_text top = if nat_lt top 2 then codes "no memory at 000000" else codes "memory 000000 to " ++ octal_text (top - 2)

-- memory, and the pace, where memory's end was found: where the probe ends as Probed
abbrev pub memory_lines : Option Extent → Pace → List ℕ
memory_lines (Some (Top top)) pace = line (extent_text top) ++ key_lines pace.key ++ load_lines pace.look (top / 2)
memory_lines search pace = []

-- how many characters came changed in all looks of a probe; at its largest, 64 bits, the count stays
abbrev pub changed_in_all : Changes → ℕ
changed_in_all changes = min (changes.first + changes.second + changes.search) (2 ^ 64 - 1)

-- so many characters came changed: nothing is said where none did
abbrev pub changed_lines : ℕ → List ℕ
changed_lines count = if count == 0 then [] else line (codes "changed characters " ++ decimal count)

-- the name of an end
abbrev pub end_name : ProbeEnd → List ℕ
end_name end.Probed = codes "Probed"
end_name end.NotTrusted = codes "NotTrusted"
end_name end.NoPrompt = codes "NoPrompt"
end_name end.GaveUp = codes "GaveUp"
end_name (end.NoWord address) = codes "NoWord " ++ octal_text address
end_name (end.CutOff cut) = cut_name cut

-- what a probe prints of its findings, of what was heard and of its pace
abbrev pub probe_text : Findings → Noted → Pace → List ℕ
probe_text f notes pace =
    line (prompt_line notes.prompt)
    ++ heard_lines (probe_end f notes.prompt) notes
    ++ style_lines f.trial
    ++ trust_lines f f.first
    ++ memory_lines f.search pace
    ++ changed_lines (changed_in_all f.changes)
    ++ line (codes "end " ++ end_name (probe_end f notes.prompt))
