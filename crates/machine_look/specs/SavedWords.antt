-- The words of the tape that holds what was read (this project's own).
use Rattle.std.specs.Prelude.{◌≡◌, ℕ, ◌+◌, ◌*◌, ◌<◌, List, [], ◌∷◌, length, slice_index}
use Rattle.std.specs.FinMap.{get}
use Rattle.tape_values.specs.Tape.{TapeValue}
use Rattle.tape_image.specs.Word.{WordValue, whole_word}
use Rattle.tape_image.specs.Plan.{plan_of, given_byte, program_start}

-- the words that were read: the numbers at the first of the addresses
abbrev pub words_read : List ℕ → List ℕ → List WordValue
words_read [] numbers = []
words_read (address ∷ addresses) [] = []
words_read (address ∷ addresses) (number ∷ numbers) = whole_word address number ∷ words_read addresses numbers

-- the plan of a tape is word for word, and byte for byte, that of the numbers at the addresses
pub record HoldsWhatWasRead (addresses numbers : List ℕ) (tape : TapeValue) : Type 0 where
  pub words : (plan_of tape).words ≡ words_read addresses numbers
  pub bytes : (b : ℕ) → get (plan_of tape).image b ≡ given_byte (words_read addresses numbers) b
  pub start : (plan_of tape).start ≡ program_start tape.start

-- the addresses follow one another, word by word, from the first on
abbrev pub StandFrom : ℕ → List ℕ → Type 0
StandFrom from addresses = (i : ℕ) → i < length addresses → slice_index addresses i ≡ from + 2 * i
