-- The text of a record: how the words of a plan are written one after another, and the mark.
use Rattle.std.specs.Prelude.{ℕ, Bool, true, false, if◌then◌else◌, List, [], ◌∷◌, ◌++◌, take, Option, Some, None}
use Rattle.tape_image.specs.Word.{WordValue, word_fields}
use Rattle.tape_image.specs.Plan.{PlanValue}
use Rattle.byte_io.specs.Text.{line, line_end}
use Rattle.load_record.specs.declared.version.Version.{Version}
use Rattle.load_record.specs.declared.version.Version.TheVariants.{First, Second}
use Rattle.load_record.specs.declared.run.OpenRun.{OpenRun}
use Rattle.load_record.specs.Lines.{header, mark_line, half_line, value_text, run_text, is_full, run_at, longer, goes_on}

-- LF behind the run line that stands open, if one does
abbrev pub ending : Option OpenRun → List ℕ
ending None = []
ending (Some run) = line_end ∷ []

-- where no run goes on: a full word opens a run line, another has a whole line
abbrev pub begun_text : WordValue → List ℕ
begun_text w = if is_full w then run_text (w ∷ []) else line (half_line w)

-- the run line that stands open then
abbrev pub begun_run : WordValue → Option OpenRun
begun_run w = if is_full w then Some (longer (run_at w.address)) else None

-- the word goes on the run line that stands open, if one does
abbrev pub joins : Option OpenRun → WordValue → Bool
joins None w = false
joins (Some run) w = goes_on run w

-- what is written of a word in version 2: its value, where it goes on the run line that stands open; else that line is
-- ended first
abbrev pub second_piece : Option OpenRun → WordValue → List ℕ
second_piece run w = if joins run w then value_text w else ending run ++ begun_text w

-- the run line that stands open after that word
abbrev pub second_run : Option OpenRun → WordValue → Option OpenRun
second_run None w = begun_run w
second_run (Some run) w = if goes_on run w then Some (longer run) else begun_run w

-- what is written of a word
abbrev pub piece : Version → Option OpenRun → WordValue → List ℕ
piece First run w = line (word_fields w)
piece Second run w = second_piece run w

-- the run line that stands open after it: in version 1 each line ends with its word
abbrev pub run_after : Version → Option OpenRun → WordValue → Option OpenRun
run_after First run w = None
run_after Second run w = second_run run w

-- what is written of some words
abbrev pub pieces : Version → Option OpenRun → List WordValue → List ℕ
pieces version run [] = []
pieces version run (w ∷ ws) = piece version run w ++ pieces version (run_after version run w) ws

-- the run line that stands open after them
abbrev pub run_over : Version → Option OpenRun → List WordValue → Option OpenRun
run_over version run [] = run
run_over version run (w ∷ ws) = run_over version (run_after version run w) ws

-- the run line that stands open after the first k words of a plan
abbrev pub open_run : Version → PlanValue → ℕ → Option OpenRun
open_run version plan k = run_over version None (take k plan.words)

-- the mark, behind the end of the run line that stands open
abbrev pub mark_text : Option OpenRun → List ℕ
mark_text run = ending run ++ line mark_line

-- the header and the first k words of a plan
unfoldable pub words_text : Version → PlanValue → ℕ → List ℕ
words_text version plan k = header version ++ line_end ∷ pieces version None (take k plan.words)

-- the record of the first k words of a plan, and of the mark
abbrev pub record_text : Version → PlanValue → ℕ → Bool → List ℕ
record_text version plan k false = words_text version plan k
record_text version plan k true = words_text version plan k ++ mark_text (open_run version plan k)
