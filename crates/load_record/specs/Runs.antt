-- In version 2 the run lines of a record are as long as they may be.
use Rattle.std.specs.Prelude.{◌≡◌, ℕ, List, [], ◌∷◌, ◌++◌, take, ⊤}
use Rattle.std.specs.List.{AllZip, flat_map}
use Rattle.tape_image.specs.Word.{WordValue}
use Rattle.tape_image.specs.Plan.{PlanValue}
use Rattle.byte_io.specs.Text.{line, line_end}
use Rattle.load_record.specs.declared.version.Version.TheVariants.{Second}
use Rattle.load_record.specs.Lines.{header, HoldsWords, IsRun}
use Rattle.load_record.specs.RecordText.{ending, open_run, words_text}

-- no line could have taken the first word of the line behind it
abbrev pub AreLongest : List (List WordValue) → Type 0
AreLongest [] = ⊤
AreLongest (words ∷ []) = ⊤
AreLongest (words ∷ next ∷ more) = (IsRun (words ++ take 1 next) → ⊥) × AreLongest (next ∷ more)

-- lines, each with its end
abbrev pub ended_lines : List (List ℕ) → List ℕ
ended_lines lines = flat_map line lines

-- these lines hold these words, and each holds as many as it may
pub record HoldLongest (lines : List (List ℕ)) (words : List WordValue) : Type 0 where
  pub groups : List (List WordValue)
  pub held : AllZip (HoldsWords Second) lines groups
  pub all : words ≡ flat_map (λ group. group) groups
  pub longest : AreLongest groups

-- behind the header the record of the first words of a plan is such lines of them, once the last line is ended
abbrev pub RunsAreLongest : Type 0
RunsAreLongest =
    (plan : PlanValue) (k : ℕ) →
    (lines : List (List ℕ)) × HoldLongest lines (take k plan.words)
    × (words_text Second plan k ++ ending (open_run Second plan k) ≡ header Second ++ line_end ∷ ended_lines lines)
