-- The digits of a word, one after another.
use Rattle.std.proofs.Common.{◌≡◌, ◌≢◌, ℕ, zero, suc, ◌+◌, ◌-◌, ◌*◌, ◌/◌, ◌%◌, ◌<◌, true, false, eqb, ◌∷◌, refl, arith, ◌∙◌}
use Rattle.std.specs.Prelude.{◌||◌}
use Rattle.std.proofs.lemmas.Bool.Decides.{nat_tests}
use Rattle.octal.specs.Octal.{head, digit_of, is_digit, pushed, digit_value}
use Rattle.odt_machine.specs.declared.key.Key.TheVariants.{Digit}
use Rattle.odt_machine.specs.Key.{key_of}
use Rattle.host_core.specs.Host.{IsPlace}
use Rattle.line_world.specs.Site.{last_digits}

-- what holds at 0 to 5
pub below_six : (P : ℕ → Type 0) → P 0 → P 1 → P 2 → P 3 → P 4 → P 5 → (k : ℕ) → k < 6 → P k
below_six P a b c d e f zero h = a
below_six P a b c d e f (suc zero) h = b
below_six P a b c d e f (suc (suc zero)) h = c
below_six P a b c d e f (suc (suc (suc zero))) h = d
below_six P a b c d e f (suc (suc (suc (suc zero)))) h = e
below_six P a b c d e f (suc (suc (suc (suc (suc zero))))) h = f
below_six P a b c d e f (suc (suc (suc (suc (suc (suc k)))))) h = absurd (omega arith)

-- one digit more
pub head_step : (w : ℕ) → w < 65536 → (k : ℕ) → k < 6 → 8 * head w k + head w (k + 1) % 8 ≡ head w (k + 1)
head_step w h = below_six (λ k. 8 * head w k + head w (k + 1) % 8 ≡ head w (k + 1)) (omega arith) (omega arith) (omega arith) (omega arith) (omega arith) (omega arith)

head_small : (w : ℕ) → w < 65536 → (k : ℕ) → k < 6 → head w (k + 1) < 65536
head_small w h = below_six (λ k. head w (k + 1) < 65536) (omega arith) (omega arith) (omega arith) (omega arith) (omega arith) (omega arith)

pub digit_is : (n : ℕ) → is_digit (48 + n % 8) ≡ true
digit_is n = grind (arith, nat_tests)

pub digit_key : (w k : ℕ) → key_of (digit_of w k) ≡ Digit
digit_key w k = rw (digit_is (head w k)) refl

digit_back : (w k : ℕ) → digit_of w k - 48 ≡ head w k % 8
digit_back w k = omega arith

pub pushed_head : (w : ℕ) → w < 65536 → (k : ℕ) → k < 6 → pushed (head w k) (digit_of w (k + 1)) ≡ head w (k + 1)
pushed_head w h k small =
    let step : 8 * head w k + head w (k + 1) % 8 ≡ head w (k + 1) = head_step w h k small in
    let low : head w (k + 1) < 65536 = head_small w h k small in
    let back : digit_of w (k + 1) - 48 ≡ head w (k + 1) % 8 = digit_back w (k + 1) in
    pushed_by (head w k) (digit_of w (k + 1)) (head w (k + 1)) (omega arith) low
  where
    pushed_by : (v c n : ℕ) → 8 * v + digit_value c ≡ n → n < 65536 → pushed v c ≡ n
    pushed_by v c n e small = omega arith

pub last_step : (w j : ℕ) → j < 6 → last_digits w (6 - j) ≡ digit_of w (j + 1) ∷ last_digits w (6 - (j + 1))
last_step w = below_six (λ j. last_digits w (6 - j) ≡ digit_of w (j + 1) ∷ last_digits w (6 - (j + 1))) refl refl refl refl refl refl

-- what holds at 1 to 6
pub at_place : (P : ℕ → Type 0) → P 1 → P 2 → P 3 → P 4 → P 5 → P 6 → (k : ℕ) → IsPlace k → P k
at_place P a b c d e f zero h = absurd (omega (arith, h.from))
at_place P a b c d e f (suc zero) h = a
at_place P a b c d e f (suc (suc zero)) h = b
at_place P a b c d e f (suc (suc (suc zero))) h = c
at_place P a b c d e f (suc (suc (suc (suc zero)))) h = d
at_place P a b c d e f (suc (suc (suc (suc (suc zero))))) h = e
at_place P a b c d e f (suc (suc (suc (suc (suc (suc zero)))))) h = f
at_place P a b c d e f (suc (suc (suc (suc (suc (suc (suc k))))))) h = absurd (omega (arith, h.to))

-- the first digit of a word is 0 or 1
pub not_first : (w c : ℕ) → w < 65536 → (eqb c 48 || eqb c 49) ≡ false → c ≢ digit_of w 1
not_first w c small e same = not_early c (w / 32768) e (omega arith) (same ∙ low (w / 32768) (omega arith))
  where
    low : (n : ℕ) → n < 2 → 48 + n % 8 ≡ 48 + n
    low n h = omega arith

    not_early : (c n : ℕ) → (eqb c 48 || eqb c 49) ≡ false → n < 2 → c ≡ 48 + n → ⊥
    not_early c n e h same = grind (arith, nat_tests)
