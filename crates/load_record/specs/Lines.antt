-- The lines of a record, in both versions. Their forms are this project's choice (docs/RECORD.md).
use Rattle.std.specs.Prelude.{◌≡◌, ℕ, ◌+◌, Bool, false, ◌&&◌, ◌==◌, nat_lt, IsTrue, ◌⊎◌, List, [], ◌∷◌, ◌++◌, codes, ⊤}
use Rattle.octal.specs.Octal.{octal_text}
use Rattle.tape_image.specs.Word.{WordValue, word_fields}
use Rattle.load_record.specs.declared.version.Version.{Version}
use Rattle.load_record.specs.declared.version.Version.TheVariants.{First, Second}
use Rattle.load_record.specs.declared.run.OpenRun.{OpenRun}

-- the first line, which names the version
abbrev pub header : Version → List ℕ
header First = codes "LDAODT 1"
header Second = codes "LDAODT 2"

-- the line of the mark
abbrev pub mark_line : List ℕ
mark_line = codes "G"

-- in version 2, the line of a word of which the tape has one byte alone
abbrev pub half_line : WordValue → List ℕ
half_line w = codes "H " ++ word_fields w

-- a space, and the word's value
abbrev pub value_text : WordValue → List ℕ
value_text w = 32 ∷ octal_text w.value

-- the most words of a run line: so it is 118 characters long at most (this project's choice)
abbrev pub longest_run : ℕ
longest_run = 16

-- the values of some words one after another
abbrev pub values_text : List WordValue → List ℕ
values_text [] = []
values_text (w ∷ ws) = value_text w ++ values_text ws

-- in version 2, the run line of some words: the address of the first, and their values
abbrev pub run_text : List WordValue → List ℕ
run_text [] = []
run_text (w ∷ ws) = octal_text w.address ++ values_text (w ∷ ws)

-- the tape has both bytes of the word
abbrev pub is_full : WordValue → Bool
is_full w = w.mask == 0o177777

-- a run line that begins at an address, with no word yet
abbrev pub run_at : ℕ → OpenRun
run_at address = record { next = address; count = 0 }

-- a run line with one more word
abbrev pub longer : OpenRun → OpenRun
longer run = record { next = run.next + 2; count = run.count + 1 }

-- the word goes on a run line: it is full, it lies at the next address, and there is room for one more
abbrev pub goes_on : OpenRun → WordValue → Bool
goes_on run w = w.address == run.next && (nat_lt run.count longest_run && is_full w)

-- the words go on a run line one after another
abbrev pub GoOn : OpenRun → List WordValue → Type 0
GoOn run [] = ⊤
GoOn run (w ∷ ws) = IsTrue (goes_on run w) × GoOn (longer run) ws

-- the words of a run line: one or more full words at consecutive even addresses, no more than it may have
abbrev pub IsRun : List WordValue → Type 0
IsRun [] = ⊥
IsRun (w ∷ ws) = GoOn (run_at w.address) (w ∷ ws)

-- in version 1 each word has a line of its own
pub record IsWordLine (line : List ℕ) (words : List WordValue) : Type 0 where
  pub word : WordValue
  pub alone : words ≡ word ∷ []
  pub spelled : line ≡ word_fields word

-- in version 2 a word that is not full has a line of its own
pub record IsHalfLine (line : List ℕ) (words : List WordValue) : Type 0 where
  pub word : WordValue
  pub alone : words ≡ word ∷ []
  pub half : is_full word ≡ false
  pub spelled : line ≡ half_line word

-- in version 2 full words stand in runs
pub record IsRunLine (line : List ℕ) (words : List WordValue) : Type 0 where
  pub run : IsRun words
  pub spelled : line ≡ run_text words

-- an ended line holds these words
abbrev pub HoldsWords : Version → List ℕ → List WordValue → Type 0
HoldsWords First line words = IsWordLine line words
HoldsWords Second line words = IsHalfLine line words ⊎ IsRunLine line words
