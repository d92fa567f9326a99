-- Which words are tested (this project's choice): every so manieth of a range.
use Rattle.std.specs.Prelude.{ℕ, zero, suc, ◌+◌, ◌-◌, ◌*◌, ◌/◌, List, [], ◌∷◌, ◌++◌}

-- so many addresses from one on, so many bytes apart
unfoldable pub addresses_by : ℕ → ℕ → ℕ → List ℕ
addresses_by from step zero = []
addresses_by from step (suc n) = addresses_by from step n ++ (from + step * n) ∷ []

-- the addresses of every so manieth word from the first to the last: the first is one of them
abbrev pub every_address : (from to every : ℕ) → List ℕ
every_address from to every = addresses_by from (2 * every) ((to - from) / (2 * every) + 1)
