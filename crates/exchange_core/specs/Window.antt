-- Where a stub may lie: words of the plan that are whole and follow one another (this project's choice).
use Rattle.std.specs.Prelude.{◌≡◌, ℕ, ◌+◌, ◌<◌, ◌≤◌, List, length, Option, Some, None}
use Rattle.tape_image.specs.Word.{WordValue}
use Rattle.host_core.specs.Core.{word_nr}

-- the words from number i up to number n, n excluded, are whole ones, each right behind the other
pub record AreTogether (words : List WordValue) (i n : ℕ) : Type 0 where
  pub whole : (k : ℕ) → i ≤ k → k < n → (word_nr words k).mask ≡ 0o177777
  pub next : (k : ℕ) → i ≤ k → k + 1 < n → (word_nr words (k + 1)).address ≡ (word_nr words k).address + 2

-- behind the first `from` words and at least one more, so many words that are together begin with number i
pub record IsWindow (words : List WordValue) (from size i : ℕ) : Type 0 where
  pub behind : from < i
  pub within : i + size ≤ length words
  pub together : AreTogether words i (i + size)

-- a window is found that is at least as high
abbrev pub IsNoLower : Option ℕ → ℕ → Type 0
IsNoLower None i = ⊥
IsNoLower (Some j) i = i ≤ j

-- of all words behind the first `from` and one more from which on the words up to number n are together, this is the first; or n, where there is none
pub record IsFirstTogether (words : List WordValue) (from first n : ℕ) : Type 0 where
  pub behind : from < first
  pub within : first ≤ n
  pub together : AreTogether words first n
  pub lowest : (i : ℕ) → from < i → i ≤ n → AreTogether words i n → first ≤ i
