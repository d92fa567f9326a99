-- What reaches an output, where the writer tells its bytes.
use Rattle.std.specs.Prelude.{◌≡◌, ℕ, ◌<◌, List, Option, ◌++◌, length}
use Rattle.std.specs.Io.KnownBytes.{Appends}

-- a text was written but for what is left of it, and nothing else was
pub record WritesAllBut (out out' : Option (List ℕ)) (text left : List ℕ) : Type 0 where
  pub written : List ℕ
  pub whole : text ≡ written ++ left
  pub appended : Appends out out' written

-- a prefix of the text was written and nothing else: none of it, some or all
abbrev pub WritesPrefix : Option (List ℕ) → Option (List ℕ) → List ℕ → Type 0
WritesPrefix out out' text = (left : List ℕ) × WritesAllBut out out' text left

-- a prefix of the text was written and nothing else, and something of the text is missing
abbrev pub WritesProperPrefix : Option (List ℕ) → Option (List ℕ) → List ℕ → Type 0
WritesProperPrefix out out' text = (left : List ℕ) × (0 < length left) × WritesAllBut out out' text left
