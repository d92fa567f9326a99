-- Decimal numbers of a script, digit by digit.
use Rattle.std.proofs.Common.{◌≡◌, ℕ, ◌+◌, ◌*◌, ◌^◌, ◌<◌, ◌≤◌, List, [], ◌∷◌, length, take, get_or, zero, suc, arith, subst, ap, sym}
use Rattle.std.specs.Char.{digit_value}
use Rattle.std.specs.Str.Parse.{AllDigits, digits_value}
use Rattle.std.proofs.lemmas.List.{length-take}
use Rattle.std.proofs.lemmas.Int.Digits.{digits_value_more, digits_more}
use Rattle.std.proofs.lemmas.Str.Parse.{digits_value_short, numerals_by_value, tells_digits}
use Rattle.loss_scripts.specs.Line.{IsNumber}

-- each character of a numeral is a digit
digit_in : (radix : ℕ) (text : List ℕ) (i : ℕ) → AllDigits radix text → i < length text → digit_value (get_or text i 0) < radix
digit_in radix [] i all within = absurd (omega arith)
digit_in radix (c ∷ cs) zero all within = all.0
digit_in radix (c ∷ cs) (suc i) all within = digit_in radix cs i all.1 (omega arith)

-- fewer than ten digits are below a thousand million
pub nine_digits : (text : List ℕ) (i value : ℕ) → AllDigits 10 (take i text) → value ≡ digits_value 10 (take i text) → i < length text → length text ≤ 10 → value < 1000000000
nine_digits text i value digits is within few =
    let small : digits_value 10 (take i text) < 10 ^ 9 = digits_value_short (numerals_by_value (AllDigits 10) tells_digits) (take i text) 9 digits (omega (arith, length-take i text)) in
    omega arith

-- a text with a character that is no digit is no number
pub no_number : (text : List ℕ) (i c : ℕ) → i < length text → c ≡ get_or text i 0 → (digit_value c < 10 → ⊥) → (n : ℕ) → IsNumber text n → ⊥
no_number text i c within here other n is = other (subst (λ d. digit_value d < 10) (sym here) (digit_in 10 text i is.digits within))

-- one digit more
pub digit_more : (text : List ℕ) (i value c : ℕ) → AllDigits 10 (take i text) → value ≡ digits_value 10 (take i text) → i < length text → c ≡ get_or text i 0 → digit_value c < 10
    → AllDigits 10 (take (i + 1) text) × (10 * value + digit_value c ≡ digits_value 10 (take (i + 1) text))
digit_more text i value c digits is within here small =
    let at : digit_value (get_or text i 0) < 10 = subst (λ d. digit_value d < 10) here small in
    let same : digit_value c ≡ digit_value (get_or text i 0) = ap digit_value here in
    let more = digits_value_more 10 text i within in
    (digits_more 10 text i within digits at, omega arith)
