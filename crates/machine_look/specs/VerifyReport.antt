-- What `verify` prints (this project's own).
use Rattle.std.specs.Prelude.{ℕ, Bool, ◌==◌, if◌then◌else◌, List, ◌++◌, length, codes, decimal, Ok, Err}
use Rattle.std.specs.List.{flat_map}
use Rattle.octal.specs.Octal.{octal_text}
use Rattle.tape_image.specs.Word.{WordValue, word_fields}
use Rattle.byte_io.specs.Text.{line}
use Rattle.reading_core.specs.declared.phase.End.TheVariants.{Complete, GaveUp as HostGaveUp, NoWord as HostFoundNoWord}
use Rattle.reading_core.specs.Reader.{Reader}
use Rattle.looking_engine.specs.Stopping.{LookStop}
use Rattle.engine.specs.Stopping.{cut_name}
use Rattle.machine_look.specs.declared.difference.Difference.{Difference}
use Rattle.machine_look.specs.declared.verify_end.VerifyEnd.{VerifyEnd}
use Rattle.machine_look.specs.declared.verify_end.VerifyEnd.TheVariants.{Same, Changed, Differs, NoWord, GaveUp, CutOff}
use Rattle.reading_core.specs.declared.care.Care.{Care}
use Rattle.machine_look.specs.Differences.{differences}
use Rattle.machine_look.specs.Trust.{is_trusted}

-- how it ends, by whether what was read may be believed, how many words differ, and how the reading stopped: memory is the same only where
-- every word was read
abbrev pub verify_end : (trusted : Bool) → ℕ → LookStop → VerifyEnd
verify_end trusted differ (Ok Complete) = if differ == 0 then (if trusted then Same else Changed) else Differs
verify_end trusted differ (Ok HostGaveUp) = GaveUp
verify_end trusted differ (Ok (HostFoundNoWord address)) = NoWord address
verify_end trusted differ (Err cut) = CutOff cut

-- the name of an end
abbrev pub verify_end_name : VerifyEnd → List ℕ
verify_end_name Same = codes "Same"
verify_end_name Changed = codes "Changed"
verify_end_name Differs = codes "Differs"
verify_end_name (NoWord address) = codes "NoWord " ++ octal_text address
verify_end_name GaveUp = codes "GaveUp"
verify_end_name (CutOff cut) = cut_name cut

-- a word's address, mask and value, and the whole word that memory holds there
abbrev pub difference_text : Difference → List ℕ
difference_text d = word_fields d.word ++ codes " differs " ++ octal_text d.now

-- the characters sent, and the mishaps
abbrev pub life_text : Reader → List ℕ
life_text reader = codes "sent " ++ decimal reader.sent ++ codes " spent " ++ decimal reader.spent

-- the characters sent, the mishaps, how many of the words were looked at and how many of these differ
abbrev pub verify_counts_text : ℕ → Reader → ℕ → List ℕ
verify_counts_text words reader differ =
    life_text reader ++ codes " looked " ++ decimal (length reader.values) ++ codes " of " ++ decimal words ++ codes " differ " ++ decimal differ

-- a line for each of these differences
abbrev pub lines_of : List Difference → List ℕ
lines_of found = flat_map (λ d. line (difference_text d)) found

-- a line for each difference between words and the numbers that were read at the first of their addresses
abbrev pub difference_lines : List WordValue → List ℕ → List ℕ
difference_lines words numbers = lines_of (differences words numbers)

-- the counts, and the end
abbrev pub last_lines : (trusted : Bool) → ℕ → Reader → ℕ → LookStop → List ℕ
last_lines trusted words reader differ stop =
    line (verify_counts_text words reader differ) ++ line (codes "end " ++ verify_end_name (verify_end trusted differ stop))

-- what `verify` prints of a reading of words with this care
abbrev pub verify_report : Care → List WordValue → Reader → LookStop → List ℕ
verify_report care words reader stop =
    difference_lines words reader.values ++ last_lines (is_trusted care reader.foreign) (length words) reader (length (differences words reader.values)) stop
