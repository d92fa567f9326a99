-- A stream that is read ahead: what was read of it and is not given yet.
use Rattle.std.specs.Prelude.{ℕ, Bool, false, List, [], ◌∷◌, take, drop}

-- so many bytes were read, of which so many were given: those that are left
abbrev pub left_ahead : List ℕ → ℕ → ℕ → List ℕ
left_ahead bytes given filled = drop given (take filled bytes)

-- nothing more comes once nothing is left, and the stream itself is at its end
abbrev pub is_over_behind : List ℕ → Bool → Bool
is_over_behind [] is_over = is_over
is_over_behind (byte ∷ ahead) is_over = false
