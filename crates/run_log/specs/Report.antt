-- What is noted of a report, and told of it in a log (this project's own).
use Rattle.std.specs.Prelude.{◌≡◌, ℕ, ◌&&◌, ◌||◌, Bool, nat_eq, nat_lt, List, [], ◌++◌, length, take, All, Contains, Option, Some, None, codes, ⊤}
use Rattle.std.specs.List.{find, flat_map, starts_with}
use Rattle.byte_io.specs.Text.{line, line_end}

-- how the report ended and what it counted, as its lines say, and the front of the line that has not ended yet
pub record Noted : Type 0 where
  pub ending : Option (List ℕ)
  pub counts : Option (List ℕ)
  pub front : List ℕ

-- a line of a report is shorter than this
abbrev pub most_of_line : ℕ
most_of_line = 160

-- whether a line begins with these words, as a report's does
abbrev pub begins : List ℕ → List ℕ → Bool
begins words text = nat_lt (length text) most_of_line && starts_with nat_eq text words

-- whether a line says what a report counted: keys and words, or the words of memory that were tested
abbrev pub is_count : List ℕ → Bool
is_count text = begins (codes "sent ") text || begins (codes "tested ") text

-- there is no end of a line in it
abbrev pub IsUnbroken : List ℕ → Type 0
IsUnbroken text = Contains text line_end → ⊥

-- a text is these lines, and behind them the front of one
pub record IsOfLines (text : List ℕ) (lines : List (List ℕ)) (front : List ℕ) : Type 0 where
  pub whole : text ≡ flat_map line lines ++ front
  pub unbroken : All IsUnbroken lines × IsUnbroken front

-- what is noted of a text, whose lines are these: the first that says how a report ended, and the first that says what it counted
pub record IsNotedOf (lines : List (List ℕ)) (front : List ℕ) (notes : Noted) : Type 0 where
  pub ending : notes.ending ≡ find (begins (codes "end ")) lines
  pub counts : notes.counts ≡ find is_count lines
  pub front_is : notes.front ≡ take most_of_line front

-- what is noted of a text
abbrev pub IsNoted : List ℕ → Noted → Type 0
IsNoted text notes = (lines : List (List ℕ)) × (front : List ℕ) × IsOfLines text lines front × IsNotedOf lines front notes

-- an output that told at first what it held still tells, and these are the notes of all that was written to it since
abbrev pub AreNotesSince : Option (List ℕ) → Option (List ℕ) → Noted → Type 0
AreNotesSince None now notes = ⊤
AreNotesSince (Some first) None notes = ⊥
AreNotesSince (Some first) (Some now) notes = (text : List ℕ) × (now ≡ first ++ text) × IsNoted text notes

-- what is told of a report that ended so and counted this: nothing of one that has no end
abbrev pub ended_text : Option (List ℕ) → Option (List ℕ) → List ℕ
ended_text None counts = []
ended_text (Some ending) None = codes " " ++ ending
ended_text (Some ending) (Some counts) = codes " " ++ (ending ++ (codes " " ++ counts))

-- what is told of a report
abbrev pub report_text : Noted → List ℕ
report_text notes = ended_text notes.ending notes.counts
