-- The text of what a test of memory found: a function of what was read (this project's own).
use Rattle.std.specs.Prelude.{ℕ, zero, Bool, not, suc, ◌+◌, ◌-◌, ◌*◌, ◌==◌, ◌&&◌, nat_lt, if◌then◌else◌, List, [], ◌++◌}
use Rattle.std.specs.Prelude.{Option, Some, None, length, take, codes, decimal}
use Rattle.std.specs.List.{filter, flat_map}
use Rattle.octal.specs.Octal.{octal_text}
use Rattle.byte_io.specs.Text.{line}
use Rattle.engine.specs.Stopping.{cut_name}
use Rattle.memory_core.specs.declared.seen.Readings.{Readings}
use Rattle.memory_core.specs.declared.seen.Seen.{Seen}
use Rattle.memory_core.specs.declared.seen.Seen.TheVariants as seen
use Rattle.memory_core.specs.declared.stage.Borrowed.{Borrowed}
use Rattle.memory_core.specs.Stage.{complement}
use Rattle.memory_report.specs.declared.findings.Findings.{Findings}
use Rattle.memory_report.specs.declared.test_end.TestEnd.{TestEnd}
use Rattle.memory_report.specs.declared.test_end.TestEnd.TheVariants.{Tested, NotTrusted, NoWord, GaveUp, CutOff}
use Rattle.memory_report.specs.declared.findings.Word.{Word}
use Rattle.memory_report.specs.declared.verdict.Verdict.{Verdict}
use Rattle.memory_report.specs.declared.verdict.Verdict.TheVariants.{Holds, ReadsZero, ReadsOne, Fails}
use Rattle.memory_report.specs.Bus.{BusFound, bus_of, is_same, same_words}
use Rattle.memory_report.specs.Words.{all_hold, bad_in, bank_of, column, count_bad, gap_in, is_bad, tested_in}

-- ---- the picture

-- the columns: the bits of a word
abbrev pub columns_text : List ℕ
columns_text = codes "                15 14 13 12 11 10  9  8  7  6  5  4  3  2  1  0"

-- `.` held what it was given in each tested word, `0` and `1` read that whatever was deposited, `x` is bad in another way
abbrev pub cell_text : Option Verdict → List ℕ
cell_text (Some Holds) = codes "  ."
cell_text (Some ReadsZero) = codes "  0"
cell_text (Some ReadsOne) = codes "  1"
cell_text (Some Fails) = codes "  x"
cell_text None = codes "   "

-- so many bits of a bank, from bit 15 on
unfoldable pub cells_text : List Word → ℕ → ℕ → List ℕ
cells_text words bank zero = []
cells_text words bank (suc n) = cells_text words bank n ++ cell_text (column words bank (15 - n))

-- how many of the tested words do not hold, where one does not
abbrev pub bad_text : ℕ → ℕ → List ℕ
bad_text bad tested = if nat_lt 0 bad then codes "   " ++ decimal bad ++ codes " of " ++ decimal tested else []

abbrev pub gap_text : Option ℕ → List ℕ
gap_text (Some address) = codes "   no memory at " ++ octal_text address
gap_text None = []

-- a bank of which words were tested, and one of which none was
abbrev pub tested_text : List Word → Option ℕ → ℕ → ℕ → List ℕ
tested_text words gap bank tested = codes " " ++ cells_text words bank 16 ++ bad_text (bad_in words bank) tested ++ gap_text gap

abbrev pub untested_text : Option ℕ → List ℕ
untested_text (Some address) = codes "   no memory"
untested_text None = codes "   not tested"

abbrev pub seen_text : List Word → Option ℕ → ℕ → List ℕ
seen_text words gap bank = if tested_in words bank == 0 then untested_text gap else tested_text words gap bank (tested_in words bank)

-- the first and the last address of a bank
abbrev pub bank_text : ℕ → List ℕ
bank_text bank = octal_text (bank * 0o20000) ++ codes "-" ++ octal_text (bank * 0o20000 + 0o17776)

abbrev pub row_text : List Word → List ℕ → ℕ → List ℕ
row_text words gaps bank = bank_text bank ++ seen_text words (gap_in gaps bank) bank ++ line []

-- the rows of so many banks, from one on
unfoldable pub rows_text : List Word → List ℕ → ℕ → ℕ → List ℕ
rows_text words gaps first zero = []
rows_text words gaps first (suc n) = rows_text words gaps first n ++ row_text words gaps (first + n)

-- ---- the words that do not hold

abbrev pub reads_text : ℕ → ℕ → List ℕ
reads_text deposited read = octal_text deposited ++ codes " reads " ++ octal_text read

-- what a word held, and what it reads behind each number that was deposited
abbrev pub numbers_text : Readings → List ℕ
numbers_text r = codes " held " ++ octal_text r.old ++ codes "; " ++ reads_text (complement r.old) r.turned ++ codes ", " ++ reads_text r.old r.back

-- what two looks read, where they differ
abbrev pub looks_text : ℕ → ℕ → List ℕ
looks_text first second = codes " reads " ++ octal_text first ++ codes ", then " ++ octal_text second

-- what was read of it
abbrev pub readings_text : Seen → List ℕ
readings_text (seen.Unsteady first second) = looks_text first second
readings_text (seen.Tested readings) = numbers_text readings

abbrev pub word_text : Word → List ℕ
word_text word = octal_text word.address ++ readings_text word.seen ++ line []

-- one of them, where fewer than eight are shown
abbrev pub shown_text : ℕ → Word → List ℕ
shown_text shown word = if nat_lt shown 8 && is_bad word then word_text word else []

abbrev pub shown_also : ℕ → Word → ℕ
shown_also shown word = if nat_lt shown 8 && is_bad word then shown + 1 else shown

-- the first eight
abbrev pub bad_words_text : List Word → List ℕ
bad_words_text words = flat_map word_text (take 8 (filter is_bad words))

abbrev pub more_lines : ℕ → List ℕ
more_lines bad = if nat_lt 8 bad then codes "and " ++ decimal (bad - 8) ++ line (codes " more") else []

abbrev pub count_lines : ℕ → ℕ → List ℕ
count_lines tested bad = codes "tested " ++ decimal tested ++ codes " words, " ++ decimal bad ++ line (codes " do not hold")

abbrev pub words_text : List Word → List ℕ
words_text words = bad_words_text words ++ more_lines (count_bad words) ++ count_lines (length words) (count_bad words)

-- ---- the bus

abbrev pub touch_text : Bool → List ℕ
touch_text touches = if touches then line (codes "data lines touch") else []

abbrev pub same_text : ℕ → ℕ → List ℕ
same_text at other = octal_text at ++ codes " and " ++ octal_text other ++ line (codes " are one word")

-- one of them, where fewer than eight are shown
abbrev pub same_shown_text : ℕ → BusFound → ℕ → ℕ → List ℕ
same_shown_text at b shown other = if nat_lt shown 8 && is_same b other then same_text at other else []

abbrev pub same_shown_also : BusFound → ℕ → ℕ → ℕ
same_shown_also b shown other = if nat_lt shown 8 && is_same b other then shown + 1 else shown

-- the first eight words that are one with it
abbrev pub same_words_text : ℕ → BusFound → List ℕ
same_words_text at b = flat_map (same_text at) (take 8 (same_words b))

abbrev pub bus_text_at : BusFound → Option ℕ → List ℕ
bus_text_at b None = []
bus_text_at b (Some at) =
    touch_text b.touches ++ same_words_text at b
    ++ codes "tested the bus at " ++ octal_text at ++ codes ", beside " ++ decimal b.looked_at ++ line (codes " words")

abbrev pub bus_text : BusFound → List ℕ
bus_text b = bus_text_at b b.at

-- ---- the end

abbrev pub borrowed_text : Option Borrowed → List ℕ
borrowed_text (Some word) = codes "the word at " ++ octal_text word.address ++ codes " held " ++ octal_text word.old ++ line (codes ", now look at it")
borrowed_text None = []

abbrev pub end_name : TestEnd → List ℕ
end_name Tested = codes "Tested"
end_name NotTrusted = codes "NotTrusted"
end_name (NoWord address) = codes "NoWord " ++ octal_text address
end_name GaveUp = codes "GaveUp"
end_name (CutOff cut) = cut_name cut

abbrev pub end_text : TestEnd → List ℕ
end_text end = codes "end " ++ end_name end ++ line []

-- ---- all of it

-- what was found: the range that was asked for, the words that were tested, the addresses at which nothing answered, the word under way, and the end
pub record Found : Type 0 where
  pub from : ℕ
  pub to : ℕ
  pub words : List Word
  pub gaps : List ℕ
  pub bus : BusFound
  pub borrowed : Option Borrowed
  pub end : TestEnd

abbrev pub found_of : Findings → Found
found_of f = record { from = f.from; to = f.to; words = f.words.items; gaps = f.gaps.items; bus = bus_of f.bus; borrowed = f.borrowed; end = f.end }

abbrev pub memory_text : Found → List ℕ
memory_text f =
    line columns_text ++ rows_text f.words f.gaps (bank_of f.from) (bank_of f.to - bank_of f.from + 1) ++ words_text f.words
    ++ bus_text f.bus ++ borrowed_text f.borrowed ++ end_text f.end

-- ---- the verdict

-- each word that was tested holds, no data lines touch, and no two words are one
abbrev pub is_good : Found → Bool
is_good f = all_hold f.words && not f.bus.touches && length (same_words f.bus) == 0
