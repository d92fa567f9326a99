-- One changed bit makes no key that the host types a CR, `/` or `G`.
use Rattle.std.proofs.Common.{◌≡◌, ℕ, zero, suc, ◌+◌, ◌-◌, ◌<◌, ◌≤◌, true, inl, inr, refl, arith, sym, subst}
use Rattle.std.proofs.lemmas.Bool.Decides.{nat_tests}
use Rattle.octal.specs.Octal.{is_digit}
use Rattle.line_world.specs.Wire.{is_harmless}
use Rattle.line_world.specs.OneBit.{with_bit, IsTyped}

below_seven : (P : ℕ → Type 0) → P 0 → P 1 → P 2 → P 3 → P 4 → P 5 → P 6 → (k : ℕ) → k < 7 → P k
below_seven P a b c d e f g zero h = a
below_seven P a b c d e f g (suc zero) h = b
below_seven P a b c d e f g (suc (suc zero)) h = c
below_seven P a b c d e f g (suc (suc (suc zero))) h = d
below_seven P a b c d e f g (suc (suc (suc (suc zero)))) h = e
below_seven P a b c d e f g (suc (suc (suc (suc (suc zero))))) h = f
below_seven P a b c d e f g (suc (suc (suc (suc (suc (suc zero)))))) h = g
below_seven P a b c d e f g (suc (suc (suc (suc (suc (suc (suc k))))))) h = absurd (omega arith)

-- the seven changes of a character are harmless
abbrev pub Bears : ℕ → Type 0
Bears c = (k : ℕ) → k < 7 → is_harmless (with_bit c k) ≡ true

bears_digit : (d : ℕ) → d < 8 → Bears (48 + d)
bears_digit zero h = below_seven (λ k. is_harmless (with_bit 48 k) ≡ true) refl refl refl refl refl refl refl
bears_digit (suc zero) h = below_seven (λ k. is_harmless (with_bit 49 k) ≡ true) refl refl refl refl refl refl refl
bears_digit (suc (suc zero)) h = below_seven (λ k. is_harmless (with_bit 50 k) ≡ true) refl refl refl refl refl refl refl
bears_digit (suc (suc (suc zero))) h = below_seven (λ k. is_harmless (with_bit 51 k) ≡ true) refl refl refl refl refl refl refl
bears_digit (suc (suc (suc (suc zero)))) h = below_seven (λ k. is_harmless (with_bit 52 k) ≡ true) refl refl refl refl refl refl refl
bears_digit (suc (suc (suc (suc (suc zero))))) h = below_seven (λ k. is_harmless (with_bit 53 k) ≡ true) refl refl refl refl refl refl refl
bears_digit (suc (suc (suc (suc (suc (suc zero)))))) h = below_seven (λ k. is_harmless (with_bit 54 k) ≡ true) refl refl refl refl refl refl refl
bears_digit (suc (suc (suc (suc (suc (suc (suc zero))))))) h = below_seven (λ k. is_harmless (with_bit 55 k) ≡ true) refl refl refl refl refl refl refl
bears_digit (suc (suc (suc (suc (suc (suc (suc (suc d)))))))) h = absurd (omega arith)

digit_bounds : (c : ℕ) → is_digit c ≡ true → (48 ≤ c) × (c < 56)
digit_bounds c e = grind (arith, nat_tests)

digit_from : (c : ℕ) → 48 ≤ c → 48 + (c - 48) ≡ c
digit_from c h = omega arith

digit_under : (c : ℕ) → 48 ≤ c → c < 56 → c - 48 < 8
digit_under c low high = omega arith

pub one_bit_harmless : (c : ℕ) → IsTyped c → Bears c
one_bit_harmless c (inl digit) = let b = digit_bounds c digit in subst Bears (digit_from c b.0) (bears_digit (c - 48) (digit_under c b.0 b.1))
one_bit_harmless c (inr (inl is)) = subst Bears (sym is) (below_seven (λ k. is_harmless (with_bit 47 k) ≡ true) refl refl refl refl refl refl refl)
one_bit_harmless c (inr (inr (inl is))) = subst Bears (sym is) (below_seven (λ k. is_harmless (with_bit 13 k) ≡ true) refl refl refl refl refl refl refl)
one_bit_harmless c (inr (inr (inr (inl is)))) = subst Bears (sym is) (below_seven (λ k. is_harmless (with_bit 90 k) ≡ true) refl refl refl refl refl refl refl)
one_bit_harmless c (inr (inr (inr (inr (inl is))))) = subst Bears (sym is) (below_seven (λ k. is_harmless (with_bit 85 k) ≡ true) refl refl refl refl refl refl refl)
one_bit_harmless c (inr (inr (inr (inr (inr is))))) = subst Bears (sym is) (below_seven (λ k. is_harmless (with_bit 71 k) ≡ true) refl refl refl refl refl refl refl)
