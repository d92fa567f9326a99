-- Which words are read, and in which order.
use Rattle.std.specs.Prelude.{◌≡◌, ℕ, zero, suc, ◌+◌, ◌-◌, ◌*◌, ◌/◌, ◌%◌, ◌<◌, ◌≤◌, All, AllPairs, List, [], ◌∷◌, ◌++◌, length, map}
use Rattle.tape_values.specs.Block.{top}
use Rattle.host_core.specs.Memory.{most_words}
use Rattle.host_core.specs.Word.{WordValue}

-- a word's address is even, and below 160000 (this project's choice)
pub record IsAddress (a : ℕ) : Type 0 where
  pub even : a % 2 ≡ 0
  pub below : a < top

-- addresses of words that rise; there are at most as many as even numbers below 160000
pub record AreAddresses (addresses : List ℕ) : Type 0 where
  pub each : All IsAddress addresses
  pub rising : AllPairs (λ a b. a < b) addresses
  pub few : length addresses ≤ most_words

-- the addresses of a plan's words
abbrev pub addresses_of : List WordValue → List ℕ
addresses_of words = map (λ (w : WordValue). w.address) words

-- a first and a last address of words, both of them read
pub record IsRange (from to : ℕ) : Type 0 where
  pub from_is : IsAddress from
  pub to_is : IsAddress to
  pub order : from ≤ to

-- so many addresses of words one after another
unfoldable pub addresses_from : ℕ → ℕ → List ℕ
addresses_from from zero = []
addresses_from from (suc n) = addresses_from from n ++ (from + 2 * n) ∷ []

-- the addresses of the words from the first to the last, both included
abbrev pub addresses_between : ℕ → ℕ → List ℕ
addresses_between from to = addresses_from from ((to - from) / 2 + 1)
