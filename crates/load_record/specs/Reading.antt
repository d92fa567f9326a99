-- What a text says as the record of a plan's load.
use Rattle.std.specs.Prelude.{◌≡◌, ◌≢◌, ℕ, ◌+◌, ◌<◌, ◌≤◌, ◌⊎◌, Bool, true, false, ◌==◌}
use Rattle.std.specs.Prelude.{List, [], ◌∷◌, ◌++◌, length, take, drop, IsSome, Result, Ok, Err}
use Rattle.std.specs.List.{slice_split}
use Rattle.tape_image.specs.Word.{WordValue}
use Rattle.tape_image.specs.Plan.{PlanValue}
use Rattle.host_core.specs.declared.progress.Progress.{Progress}
use Rattle.byte_io.specs.Text.{line_end}
use Rattle.load_record.specs.declared.version.Version.{Version}
use Rattle.load_record.specs.declared.version.Version.TheVariants.{First, Second}
use Rattle.load_record.specs.declared.reader.RecordError.{RecordError}
use Rattle.load_record.specs.declared.reader.RecordError.TheVariants.{NotARecord, Foreign}
use Rattle.load_record.specs.Lines.{header, mark_line, values_text, run_text, run_at, GoOn, IsRun, HoldsWords}

-- the character is LF
abbrev pub is_line_end : ℕ → Bool
is_line_end c = c == line_end

-- the text is these lines, LF behind each, and then a torn piece without LF
pub record IsCut (text : List ℕ) (lines : List (List ℕ)) (torn : List ℕ) : Type 0 where
  pub pieces : slice_split is_line_end text ≡ lines ++ torn ∷ []

-- of the words that come next, so many are a front of which this holds: the only one, and 0 where it holds of none
pub record IsHeldFront (Holds : List WordValue → Type 0) (next : List WordValue) (count : ℕ) : Type 0 where
  pub few : count ≤ length next
  pub holds : 0 < count → Holds (take count next)
  pub only : (words later : List WordValue) → next ≡ words ++ later → Holds words → count ≡ length words

-- of the words that come next, so many are the longest front of which this holds, and 0 where it holds of none
pub record IsLongestHeldFront (Holds : List WordValue → Type 0) (next : List WordValue) (count : ℕ) : Type 0 where
  pub few : count ≤ length next
  pub holds : 0 < count → Holds (take count next)
  pub most : (words later : List WordValue) → next ≡ words ++ later → Holds words → length words ≤ count

-- of the words that come next an ended line holds so many
abbrev pub HoldsCount : Version → List ℕ → List WordValue → ℕ → Type 0
HoldsCount version line next count = IsHeldFront (HoldsWords version line) next count

-- the words go on a run line from an address on, and the text begins with their values
abbrev pub BeginsWithValues : ℕ → List ℕ → List WordValue → Type 0
BeginsWithValues address text words = GoOn (run_at address) words × ((rest : List ℕ) × (text ≡ values_text words ++ rest))

-- a torn piece begins with the run line of the words, whatever follows; in version 1 nothing of a torn piece counts
abbrev pub BeginsWithRun : Version → List ℕ → List WordValue → Type 0
BeginsWithRun First torn words = ⊥
BeginsWithRun Second torn words = IsRun words × ((rest : List ℕ) × (torn ≡ run_text words ++ rest))

-- of the words that come next a torn piece holds so many: as many whole values as it has of them
abbrev pub HoldsTorn : Version → List ℕ → List WordValue → ℕ → Type 0
HoldsTorn version torn next count = IsLongestHeldFront (BeginsWithRun version torn) next count

-- a line adds the plan's next words to a progress
pub record AddsWords (version : Version) (plan : PlanValue) (line : List ℕ) (before after : Progress) : Type 0 where
  pub words : List WordValue
  pub later : List WordValue
  pub next : drop before.verified plan.words ≡ words ++ later
  pub holds : HoldsWords version line words
  pub after_is : after ≡ record { verified = before.verified + length words; going = before.going }

-- the mark may come: none came before, all words have come, and the plan has a start
pub record IsMarkDue (plan : PlanValue) (before : Progress) : Type 0 where
  pub no_mark : before.going ≡ false
  pub all : before.verified ≡ length plan.words
  pub has_start : IsSome plan.start

-- a line adds the mark to a progress
pub record AddsMark (plan : PlanValue) (line : List ℕ) (before after : Progress) : Type 0 where
  pub spelled : line ≡ mark_line
  pub due : IsMarkDue plan before
  pub after_is : after ≡ record { verified = before.verified; going = true }

-- how a record is read: as one of this version, against this plan
pub record RecordReading : Type 0 where
  pub version : Version
  pub plan : PlanValue

abbrev pub against : Version → PlanValue → RecordReading
against version plan = record { version = version; plan = plan }

-- a line adds something to a progress
abbrev pub Adds : RecordReading → List ℕ → Progress → Progress → Type 0
Adds reading line before after = AddsWords reading.version reading.plan line before after ⊎ AddsMark reading.plan line before after

-- lines lead from one progress to another, one after the other
abbrev pub Lead : Version → PlanValue → List (List ℕ) → Progress → Progress → Type 0
Lead version plan [] before after = after ≡ before
Lead version plan (line ∷ lines) before after =
    (next : Progress) × Adds (against version plan) line before next × Lead version plan lines next after

-- no word and no mark
abbrev pub nothing : Progress
nothing = record { verified = 0; going = false }

-- the text has no line
pub record IsEmptyRecord (text : List ℕ) (progress : Progress) : Type 0 where
  pub cut : IsCut text [] text
  pub none : progress ≡ nothing

-- the text is a header, lines that lead from nothing on, and a torn piece, whose whole words count
pub record IsRecord (plan : PlanValue) (text : List ℕ) (progress : Progress) : Type 0 where
  pub version : Version
  pub lines : List (List ℕ)
  pub torn : List ℕ
  pub reached : Progress
  pub whole : ℕ
  pub cut : IsCut text (header version ∷ lines) torn
  pub leads : Lead version plan lines nothing reached
  pub held : HoldsTorn version torn (drop reached.verified plan.words) whole
  pub counted : progress ≡ record { verified = reached.verified + whole; going = reached.going }

-- the first line is no header
pub record HasNoHeader (text : List ℕ) : Type 0 where
  pub line : List ℕ
  pub later : List (List ℕ)
  pub torn : List ℕ
  pub cut : IsCut text (line ∷ later) torn
  pub wrong : (version : Version) → line ≢ header version

-- the line of this number, counted from 1, is the first that adds nothing to what the lines before it lead to
pub record IsForeign (plan : PlanValue) (text : List ℕ) (number : ℕ) : Type 0 where
  pub version : Version
  pub lines : List (List ℕ)
  pub line : List ℕ
  pub later : List (List ℕ)
  pub torn : List ℕ
  pub reached : Progress
  pub cut : IsCut text (header version ∷ (lines ++ line ∷ later)) torn
  pub leads : Lead version plan lines nothing reached
  pub wrong : (after : Progress) → Adds (against version plan) line reached after → ⊥
  pub number_is : number ≡ length lines + 2

-- the most bytes that a record may have: more than that of 28,672 words in either version (this project's choice)
abbrev pub record_limit : ℕ
record_limit = 1048576

-- what a text of no more bytes than that says; a longer one is no record
abbrev pub Says : PlanValue → List ℕ → Result Progress RecordError → Type 0
Says plan text (Ok progress) = (length text ≤ record_limit) × (IsEmptyRecord text progress ⊎ IsRecord plan text progress)
Says plan text (Err NotARecord) = (record_limit < length text) ⊎ ((length text ≤ record_limit) × HasNoHeader text)
Says plan text (Err (Foreign number)) = (length text ≤ record_limit) × IsForeign plan text number
