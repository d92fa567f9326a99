-- What an output shows of differences, as the numbers are read.
use Rattle.std.specs.Prelude.{◌≡◌, ℕ, List, [], ◌∷◌, drop, Option, Some, None}
use Rattle.std.specs.Io.KnownBytes.{Appends}
use Rattle.byte_io.specs.Output.{WritesPrefix}
use Rattle.tape_image.specs.Word.{WordValue}
use Rattle.looking_engine.specs.Stopping.{LookStop}
use Rattle.machine_look.specs.Differences.{difference}
use Rattle.machine_look.specs.VerifyReport.{lines_of}

-- the line of the difference between the next of these words and a number, if there is one
abbrev pub next_line : List WordValue → ℕ → List ℕ
next_line [] number = []
next_line (word ∷ words) number = lines_of (difference word number)

-- that line was written, and the words behind are next; the output has the same name
pub record ShowsNext {N : Type 0} (words : List WordValue) (number : ℕ) (words' : List WordValue) (out out' : Option (List ℕ)) (name name' : N) : Type 0 where
  pub behind : words' ≡ drop 1 words
  pub shown : Appends out out' (next_line words number)
  pub same : name' ≡ name

-- a front of it was
pub record ShowsPartOfNext {Name : Type 0} (words : List WordValue) (number : ℕ) (out out' : Option (List ℕ)) (name name' : Name) : Type 0 where
  pub shown : WritesPrefix out out' (next_line words number)
  pub same : name' ≡ name

-- these lines were written, or a front of them where a look stopped because one could not be
abbrev pub Shows : Option LookStop → Option (List ℕ) → Option (List ℕ) → List ℕ → Type 0
Shows (Some stop) out out' lines = Appends out out' lines
Shows None out out' lines = WritesPrefix out out' lines
