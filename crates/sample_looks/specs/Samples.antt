-- Which words of a record are looked at (this project's choice).
use Rattle.std.specs.Prelude.{◌≡◌, ℕ, ◌+◌, ◌<◌, ◌≤◌, ◌++◌, min, List, length, map, get_or}
use Rattle.tape_image.specs.Word.{WordValue}
use Rattle.host_core.specs.Core.{word_nr}
use Rattle.reading_core.specs.Addresses.{addresses_of}

-- places of so many words, from 0 on: all of them where they are 8 or fewer, and else 8, the first and the last among them. From one to the next is a step, or
-- one more
pub record AreSpread (count : ℕ) (places : List ℕ) : Type 0 where
  pub number : length places ≡ min count 8
  pub first : 0 < count → get_or places 0 0 ≡ 0
  pub last : (i : ℕ) → i + 1 ≡ length places → get_or places i 0 + 1 ≡ count
  pub step : ℕ
  pub rising : 0 < step
  pub even : (i : ℕ) → i + 1 < length places
      → (get_or places i 0 + step ≤ get_or places (i + 1) 0) × (get_or places (i + 1) 0 ≤ get_or places i 0 + step + 1)

-- the words at such places, of a plan's first ones, so many
abbrev pub AreSamples : List WordValue → ℕ → List WordValue → Type 0
AreSamples words count samples = (places : List ℕ) × AreSpread count places × (samples ≡ map (word_nr words) places)

-- addresses that begin with those of samples; of the words beyond them it is asked only that memory answers
abbrev pub BeginWith : List WordValue → List ℕ → Type 0
BeginWith samples addresses = (beyond : List ℕ) × (addresses ≡ addresses_of samples ++ beyond)
