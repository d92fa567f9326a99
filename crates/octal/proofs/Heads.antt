-- A word's octal digits one by one: how the number typed so far grows into the word.
use Rattle.std.proofs.Common.{◌≡◌, ℕ, ◌+◌, ◌%◌, ◌<◌, ◌≤◌, arith, refl}
use Rattle.std.specs.Prelude.{IsTrue}
use Rattle.std.proofs.lemmas.Bool.Decides.{nat_tests}
use Rattle.octal.specs.Octal.{is_digit, octal_value, head, digit_of, octal_text, IsOct6}
use Rattle.std.proofs.lemmas.List.Elements.{All-from_recursion}

-- each digit of a word is a digit
pub digit_of-is_digit : (w k : ℕ) → IsTrue (is_digit (digit_of w k))
digit_of-is_digit w k = is_digit_of (head w k)
  where
    is_digit_of : (n : ℕ) → IsTrue (is_digit (48 + n % 8))
    is_digit_of n = grind (arith, nat_tests)

-- the first digit is `0` or `1`
digit_of-first : (w : ℕ) → w < 65536 → digit_of w 1 ≤ 49
digit_of-first w wide = omega arith

-- a word's six digits stand for it
octal_value-octal_text : (w : ℕ) → w < 65536 → octal_value (octal_text w) ≡ w
octal_value-octal_text w wide = omega arith

-- a word's six digits are its octal text
pub octal_text-is : (w : ℕ) → w < 65536 → IsOct6 w (octal_text w)
octal_text-is w wide = record {
  six = refl;
  digits = All-from_recursion (λ c. IsTrue (is_digit c)) (octal_text w) (each 1, (each 2, (each 3, (each 4, (each 5, (each 6, tt))))));
  first = digit_of-first w wide;
  value = octal_value-octal_text w wide;
}
  where
    each : (k : ℕ) → IsTrue (is_digit (digit_of w k))
    each k = digit_of-is_digit w k
