-- Laws of both versions of a record.
use Rattle.std.specs.Prelude.{◌≡◌, ◌↔◌, ℕ, ◌≤◌, Bool, true, if◌then◌else◌, List, [], ◌∷◌, ◌++◌, take, map, None, Ok}
use Rattle.tape_image.specs.Plan.{PlanValue, IsPlan}
use Rattle.tape_image.specs.Word.{word_fields}
use Rattle.host_core.specs.declared.progress.Progress.{Progress}
use Rattle.host_core.specs.Opening.{refusal_of}
use Rattle.load_record.specs.declared.version.Version.{Version}
use Rattle.load_record.specs.declared.version.Version.TheVariants.{First}
use Rattle.load_record.specs.Lines.{mark_line}
use Rattle.load_record.specs.RecordText.{record_text}
use Rattle.load_record.specs.Reading.{Lead, Says, nothing}

-- the text says a progress of at most k words, and the mark only where this is true
pub record SaysAtMost (plan : PlanValue) (text : List ℕ) (k : ℕ) (mark : Bool) : Type 0 where
  pub progress : Progress
  pub says : Says plan text (Ok progress)
  pub few : progress.verified ≤ k
  pub marked : progress.going ≡ true → mark ≡ true

-- each cut of a record is a record: the record of the first k words of a plan, with or without the mark, cut at any
-- byte, is read as k words at most, with the mark only where it had one
abbrev pub CutsAreRecords : Type 0
CutsAreRecords =
    (version : Version) (plan : PlanValue) (k : ℕ) (mark : Bool) (front rest : List ℕ) → IsPlan plan →
    refusal_of plan k mark ≡ None → front ++ rest ≡ record_text version plan k mark → SaysAtMost plan front k mark

-- a whole record is read as what it was written of
abbrev pub WholeIsRead : Type 0
WholeIsRead =
    (version : Version) (plan : PlanValue) (k : ℕ) (mark : Bool) → IsPlan plan → refusal_of plan k mark ≡ None →
    Says plan (record_text version plan k mark) (Ok (record { verified = k; going = mark }))

-- the lines behind the header of a record of version 1: one for each word, and then the mark
abbrev pub first_lines : PlanValue → ℕ → Bool → List (List ℕ)
first_lines plan k mark = map word_fields (take k plan.words) ++ (if mark then mark_line ∷ [] else [])

-- in version 1 the lines that lead to a progress are those of its words and its mark, and no others
abbrev pub FirstLinesAreThese : Type 0
FirstLinesAreThese =
    (plan : PlanValue) (lines : List (List ℕ)) (progress : Progress) →
    Lead First plan lines nothing progress
    ↔ ((refusal_of plan progress.verified progress.going ≡ None) × (lines ≡ first_lines plan progress.verified progress.going))
