-- Octal numbers as the console prints and reads them (the console ODT chapter of DEC's
-- Microcomputer Processor Handbook).
use Rattle.std.specs.Prelude.{◌≡◌, ℕ, ◌+◌, ◌-◌, ◌*◌, ◌/◌, ◌%◌, ◌^◌, ◌≤◌, Bool, ◌&&◌, ◌||◌, ◌==◌, nat_le, if◌then◌else◌, IsTrue}
use Rattle.std.specs.Prelude.{All, List, [], ◌∷◌, length, slice_index}

-- the character is an octal digit, `0` to `7`
abbrev pub is_digit : ℕ → Bool
is_digit c = nat_le 48 c && nat_le c 55

-- the character is a digit with which a word's octal text begins, `0` or `1`: a word has sixteen bits
abbrev pub is_first_digit : ℕ → Bool
is_first_digit c = c == 48 || c == 49

-- the number that a digit's character stands for
abbrev pub digit_value : ℕ → ℕ
digit_value c = c - 48

-- the number that a text of octal digits stands for: each digit times its power of 8, summed
abbrev pub octal_value : List ℕ → ℕ
octal_value [] = 0
octal_value (c ∷ cs) = digit_value c * 8 ^ length cs + octal_value cs

-- the octal text of a word: six digits, the first `0` or `1`, whose value is the word
pub record IsOct6 (word : ℕ) (text : List ℕ) : Type 0 where
  pub six : length text ≡ 6
  pub digits : All (λ c. IsTrue (is_digit c)) text
  pub first : slice_index text 0 ≤ 49
  pub value : octal_value text ≡ word

-- a number with one more digit typed after it: what passes sixteen bits falls off
abbrev pub pushed : ℕ → ℕ → ℕ
pushed v c = (8 * v + digit_value c) % 65536

-- the number that the first k of a word's six octal digits make, k from 0 to 6
abbrev pub head : ℕ → ℕ → ℕ
head w k =
    if k == 0 then 0 else if k == 1 then w / 32768 else if k == 2 then w / 4096 else if k == 3 then w / 512
    else if k == 4 then w / 64 else if k == 5 then w / 8 else w

-- the character of a word's k-th octal digit, k from 1 to 6
abbrev pub digit_of : ℕ → ℕ → ℕ
digit_of w k = 48 + head w k % 8

-- a word's six digits in order
abbrev pub octal_text : ℕ → List ℕ
octal_text w = digit_of w 1 ∷ digit_of w 2 ∷ digit_of w 3 ∷ digit_of w 4 ∷ digit_of w 5 ∷ digit_of w 6 ∷ []
