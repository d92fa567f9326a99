-- The arithmetic of the stub.
use Rattle.std.proofs.Common.{◌≡◌, ℕ, ◌+◌, ◌-◌, ◌*◌, ◌/◌, ◌%◌, ◌<◌, ◌≤◌, Bool, true, false, if◌then◌else◌, Option, Some, None, refl, arith, ◌∙◌}
use Rattle.std.specs.Prelude.{nat_lt, nat_le, ◌==◌, bit_and}
use Rattle.std.proofs.lemmas.Bool.Decides.{nat_tests}
use Rattle.std.proofs.lemmas.Nat.{and_mask}
use Rattle.processor.specs.Operand.{Word, Byte}
use Rattle.processor.specs.Console.{status}
use Rattle.processor.specs.Operand.{extended}
use Rattle.processor.specs.Execution.{difference, halved, negative}
use Rattle.exchange_core.specs.Chunk.{is_nibble}
use Rattle.stub.proofs.Points.{HighFits, sentinel}

-- a test has two outcomes
pub on_test : (P : Bool → Type 0) (test : Bool) → (test ≡ true → P true) → (test ≡ false → P false) → P test
on_test P true is isnt = is refl
on_test P false is isnt = isnt refl

-- the seven low bits of a byte whose sign was extended
extended_seven : (c : ℕ) → extended c % 128 ≡ c % 128
extended_seven c = grind (arith, nat_tests)

pub seven_bits : (c : ℕ) → bit_and (extended (c % 256)) 127 ≡ c % 128
seven_bits c = and_mask (extended (c % 256)) 7 ∙ (extended_seven (c % 256) ∙ again c)
  where
    again : (c : ℕ) → c % 256 % 128 ≡ c % 128
    again c = omega arith

-- the nibbles of a byte's complement
low_turned : (v : ℕ) → v < 256 → (65535 - extended v) % 16 ≡ 15 - v % 16
low_turned v small = grind (arith, nat_tests)

pub low_bits : (v : ℕ) → v < 256 → bit_and (65535 - extended v) 15 ≡ 15 - v % 16
low_bits v small = and_mask (65535 - extended v) 4 ∙ low_turned v small

-- the high nibble's complement, where the byte is turned behind it
high_plain_out : (v : ℕ) → v < 128 → (65535 - halved (halved (halved (halved v)))) % 16 ≡ 15 - v / 16
high_plain_out v small = omega arith

high_minus_out : (v : ℕ) → 128 ≤ v → v < 256 → (65535 - halved (halved (halved (halved (v + 65280))))) % 16 ≡ 15 - v / 16
high_minus_out v big small = omega arith

high_out_of : (v : ℕ) → v < 256 → (65535 - halved (halved (halved (halved (extended v))))) % 16 ≡ 15 - v / 16
high_out_of v small = on_test (λ b. (65535 - halved (halved (halved (halved (if b then v + 65280 else v))))) % 16 ≡ 15 - v / 16) (nat_le 128 v) (λ e. high_minus_out v (big v e) small) (λ e. high_plain_out v (low v e))
  where
    big : (v : ℕ) → nat_le 128 v ≡ true → 128 ≤ v
    big v e = grind (arith, nat_tests)

    low : (v : ℕ) → nat_le 128 v ≡ false → v < 128
    low v e = grind (arith, nat_tests)

pub high_out : (v : ℕ) → v < 256 → bit_and (65535 - halved (halved (halved (halved (extended v))))) 15 ≡ 15 - v / 16
high_out v small = and_mask (65535 - halved (halved (halved (halved (extended v))))) 4 ∙ high_out_of v small

-- ---- a character is judged

pub below_fifteen : (s r : ℕ) → s < 128 → r ≡ difference s 96 → nat_lt r 15 ≡ true → (s ≡ 96 + r) × (r < 16)
below_fifteen s r small is low = (grind (arith, nat_tests), grind (arith, nat_tests))

pub at_fifteen : (s r : ℕ) → s < 128 → r ≡ difference s 96 → (difference r 15 == 0) ≡ true → (s ≡ 96 + r) × (r < 16)
at_fifteen s r small is same = (grind (arith, nat_tests), grind (arith, nat_tests))

pub no_nibble : (s r : ℕ) → s < 128 → r ≡ difference s 96 → nat_lt r 15 ≡ false → (difference r 15 == 0) ≡ false → is_nibble s ≡ false
no_nibble s r small is high apart = grind (arith, nat_tests)

pub is_one : (n : ℕ) → n < 16 → is_nibble (96 + n) ≡ true
is_one n small = grind (arith, nat_tests)

-- ---- nibbles come together

pub sentinel_small : (high : Option ℕ) → HighFits high → sentinel high < 2064
sentinel_small None h = omega arith
sentinel_small (Some n) h = omega arith

pub shift1 : (s r : ℕ) → s < 2064 → r ≡ s → 2 * r % 65536 ≡ 2 * s
shift1 s r small is = omega arith

pub shift2 : (s r : ℕ) → s < 2064 → r ≡ 2 * s → 2 * r % 65536 ≡ 4 * s
shift2 s r small is = omega arith

pub shift3 : (s r : ℕ) → s < 2064 → r ≡ 4 * s → 2 * r % 65536 ≡ 8 * s
shift3 s r small is = omega arith

pub shift4 : (s r : ℕ) → s < 2064 → r ≡ 8 * s → 2 * r % 65536 ≡ 16 * s
shift4 s r small is = omega arith

pub joined : (s r n : ℕ) → s < 2064 → r ≡ 16 * s → n < 16 → (r + n) % 65536 ≡ 16 * s + n
joined s r n small is low = omega arith

-- the sign of what has come together: two nibbles are there
pub one_nibble : (n r : ℕ) → n < 16 → r ≡ 16 * 128 + n → negative Word r ≡ false
one_nibble n r small is = grind (arith, nat_tests)

pub two_nibbles : (h n r : ℕ) → h < 16 → n < 16 → r ≡ 16 * (2048 + h) + n → (negative Word r ≡ true) × (r ≡ 32768 + 16 * h + n)
two_nibbles h n r high low is = (grind (arith, nat_tests), omega arith)

-- ---- the console's status as a sign

pub status_sign : (on : Bool) → negative Byte (status on % 256) ≡ on
status_sign true = refl
status_sign false = refl

-- ---- two addresses are compared

pub apart : (a b : ℕ) → a < b → b < 65536 → (difference a b == 0) ≡ false
apart a b less small = grind (arith, nat_tests)

pub together : (a b : ℕ) → a ≡ b → b < 65536 → (difference a b == 0) ≡ true
together a b same small = grind (arith, nat_tests)

pub same_address : (a b : ℕ) → a ≤ b → b < 65536 → (difference a b == 0) ≡ true → a ≡ b
same_address a b less small is = grind (arith, nat_tests)

pub below_it : (a b : ℕ) → a ≤ b → b < 65536 → (difference a b == 0) ≡ false → a < b
below_it a b less small is = grind (arith, nat_tests)
