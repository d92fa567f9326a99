-- What a probe prints of what it heard, where no answer fitted (this project's own).
use Rattle.std.specs.Prelude.{ℕ, ◌+◌, ◌/◌, ◌%◌, ◌==◌, ◌||◌, nat_lt, nat_le, if◌then◌else◌, List, [], ◌∷◌, ◌++◌, length, codes}
use Rattle.std.specs.List.{flat_map}
use Rattle.host_core.specs.Console.{carriage_return, line_feed}
use Rattle.byte_io.specs.Text.{line}
use Rattle.engine.specs.declared.stop.Cut.TheVariants.{TurnsOver}
use Rattle.probe_report.specs.declared.probe_end.ProbeEnd.{ProbeEnd}
use Rattle.probe_report.specs.declared.probe_end.ProbeEnd.TheVariants.{NoPrompt, GaveUp, CutOff}
use Rattle.probe_report.specs.Notes.{Noted}

-- a backslash, and the three octal digits of a character
abbrev pub octal_escape : ℕ → List ℕ
octal_escape c = 92 ∷ (48 + c / 64) ∷ (48 + c / 8 % 8) ∷ (48 + c % 8) ∷ []

-- a character as it is shown: CR as \r, LF as \n, a backslash as two, each other one that is no printable character of ASCII in octal
abbrev pub readable : ℕ → List ℕ
readable c =
    if c == carriage_return then 92 ∷ 114 ∷ []
    else if c == line_feed then 92 ∷ 110 ∷ []
    else if c == 92 then 92 ∷ 92 ∷ []
    else if nat_lt c 32 || nat_le 127 c then octal_escape c
    else c ∷ []

-- nothing, or what was heard last
abbrev pub heard_text : Noted → List ℕ
heard_text notes =
    if length notes.tail == 0 then codes "heard nothing"
    else if notes.only_echoes then codes "heard only what was typed: " ++ flat_map readable notes.tail
    else codes "heard " ++ flat_map readable notes.tail

-- the heading that helps where nothing was heard, only echoes were, or something else was
abbrev pub heard_heading : Noted → List ℕ
heard_heading notes =
    if length notes.tail == 0 then codes "Nothing answers"
    else if notes.only_echoes then codes "Only what was typed comes back"
    else if notes.prompt then codes "The answers are others"
    else codes "Something else answers"

-- a text in quotation marks
abbrev pub quoted : List ℕ → List ℕ
quoted text = 34 ∷ (text ++ 34 ∷ [])

-- a heading of the page that helps
abbrev pub help_text : List ℕ → List ℕ
help_text heading = codes "help: docs/REAL-MACHINE.md, " ++ quoted heading

-- both, a line each
abbrev pub lines_with : List ℕ → Noted → List ℕ
lines_with heading notes = line (heard_text notes) ++ line (help_text heading)

-- they are printed where no answer came, or none that fits
abbrev pub heard_lines : ProbeEnd → Noted → List ℕ
heard_lines NoPrompt notes = lines_with (heard_heading notes) notes
heard_lines GaveUp notes = lines_with (heard_heading notes) notes
heard_lines (CutOff TurnsOver) notes = lines_with (codes "It never falls silent") notes
heard_lines end notes = []
