-- A character of which one of seven bits was changed.
use Rattle.std.specs.Prelude.{ℕ, ◌≡◌, ◌<◌, ◌+◌, ◌-◌, ◌/◌, ◌%◌, ◌^◌, ◌==◌, ◌⊎◌, true, if◌then◌else◌}
use Rattle.octal.specs.Octal.{is_digit}
use Rattle.line_world.specs.Wire.{is_harmless}
use Rattle.host_core.specs.Console.{carriage_return, go, resynchronise, resynchronise_carefully, slash}

-- the character with its bit numbered k changed
abbrev pub with_bit : ℕ → ℕ → ℕ
with_bit c k = if c / 2 ^ k % 2 == 0 then c + 2 ^ k else c - 2 ^ k

-- the characters that the host types
abbrev pub IsTyped : ℕ → Type 0
IsTyped c = (is_digit c ≡ true) ⊎ ((c ≡ slash) ⊎ ((c ≡ carriage_return) ⊎ ((c ≡ resynchronise) ⊎ ((c ≡ resynchronise_carefully) ⊎ (c ≡ go)))))

-- one changed bit makes none of them store, open or start
abbrev pub OneBitIsHarmless : Type 0
OneBitIsHarmless = (c : ℕ) → IsTyped c → (k : ℕ) → k < 7 → is_harmless (with_bit c k) ≡ true
