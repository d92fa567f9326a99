-- The bytes of a word.
use Rattle.std.proofs.Common.{◌≡◌, ℕ, ◌+◌, ◌/◌, ◌%◌, ◌<◌, ◌≤◌, Bool, true, false, inl, inr, refl, arith, ap, sym, ◌∙◌}
use Rattle.std.specs.Prelude.{◌==◌, ◌&&◌, if◌then◌else◌}
use Rattle.std.proofs.lemmas.Bool.{and_parts, eqb-true, eq-eqb, cases_eq}
use Rattle.tape_image.specs.Memory.{half}
use Rattle.tape_image.specs.Word.{WordValue, IsWord, covers, gives}
use Rattle.exchange_core.specs.Chunking.{bytes_of}

-- an address is one of a word's bytes
pub record IsAt (w : WordValue) (b : ℕ) : Type 0 where
  pub from : (bytes_of w).from ≤ b
  pub to : b < (bytes_of w).to

-- which byte of its word an address is
data Side (b : ℕ) : Type 0 where
  is_low : b % 2 ≡ 0 → ((n : ℕ) → half b n ≡ n % 256) → Side b
  is_high : b % 2 ≡ 1 → ((n : ℕ) → half b n ≡ n / 256) → Side b

same : (x y : ℕ) → x ≡ y → (x == y) ≡ true
same x y e = eq-eqb x y e

side_of : (b : ℕ) → Side b
side_of b = by (b % 2 == 0) refl
  where
    by : (test : Bool) → (b % 2 == 0) ≡ test → Side b
    by true e = is_low (eqb-true (b % 2) 0 e) (λ n. ap (λ t. if t then n % 256 else n / 256) e)
    by false e = is_high (one (b % 2) refl e) (λ n. ap (λ t. if t then n % 256 else n / 256) e)
      where
        one : (r : ℕ) → b % 2 ≡ r → (r == 0) ≡ false → b % 2 ≡ 1
        one r is other = elim (cases_eq r 0) [ inl none ↦ absurd (cc (sym (same r 0 none) ∙ other)) | inr some ↦ omega (arith, is, some) ]

both : (p q : Bool) → p ≡ true → q ≡ true → (p && q) ≡ true
both p q e f = ap (λ x. x && q) e ∙ f

-- a word with this mask gives the byte there
gives_it : (a m b : ℕ) → a / 2 ≡ b / 2 → half b m ≡ 255 → ((a / 2 == b / 2) && covers b m) ≡ true
gives_it a m b word has = both (a / 2 == b / 2) (covers b m) (same (a / 2) (b / 2) word) (ap (λ n. n == 255) has)

-- its own
it_gives : (a m b : ℕ) → ((a / 2 == b / 2) && covers b m) ≡ true → (a / 2 ≡ b / 2) × (half b m ≡ 255)
it_gives a m b g =
    let parts = and_parts (a / 2 == b / 2) (covers b m) g in
    (eqb-true (a / 2) (b / 2) parts.0, eqb-true (half b m) 255 parts.1)

-- ---- where its bytes are, by its mask

-- from one address up to another
pub record AreBytes (w : WordValue) (from to : ℕ) : Type 0 where
  pub begin : (bytes_of w).from ≡ from
  pub end : (bytes_of w).to ≡ to

pub of_low : (w : WordValue) → w.mask ≡ 0o377 → AreBytes w w.address (w.address + 1)
of_low w m = record { begin = ap (λ n. if n == 0o177400 then w.address + 1 else w.address) m; end = ap (λ n. if n == 0o377 then w.address + 1 else w.address + 2) m }

pub of_high : (w : WordValue) → w.mask ≡ 0o177400 → AreBytes w (w.address + 1) (w.address + 2)
of_high w m = record { begin = ap (λ n. if n == 0o177400 then w.address + 1 else w.address) m; end = ap (λ n. if n == 0o377 then w.address + 1 else w.address + 2) m }

pub of_both : (w : WordValue) → w.mask ≡ 0o177777 → AreBytes w w.address (w.address + 2)
of_both w m = record { begin = ap (λ n. if n == 0o177400 then w.address + 1 else w.address) m; end = ap (λ n. if n == 0o377 then w.address + 1 else w.address + 2) m }

is_at : (w : WordValue) (from to b : ℕ) → AreBytes w from to → from ≤ b → b < to → IsAt w b
is_at w from to b are low high = record { from = (let e = are.begin in omega (arith, e, low)); to = (let e = are.end in omega (arith, e, high)) }

-- the word's bytes are those that it gives
pub given_at : (w : WordValue) → IsWord w → (b : ℕ) → gives w b ≡ true → IsAt w b
given_at w is b g = elim is.inside.one_mask [
  | inl only ↦ at_low only (side_of b)
  | inr (inl only) ↦ at_high only (side_of b)
  | inr (inr whole) ↦ at_both whole
]
  where
    word : w.address / 2 ≡ b / 2
    word = (it_gives w.address w.mask b g).0

    has : half b w.mask ≡ 255
    has = (it_gives w.address w.mask b g).1

    at_low : w.mask ≡ 0o377 → Side b → IsAt w b
    at_low only (is_low even half_is) = is_at w w.address (w.address + 1) b (of_low w only) (let e = is.even in omega (arith, word, even, e)) (let e = is.even in omega (arith, word, even, e))
    at_low only (is_high odd half_is) = absurd (let none : 0 ≡ 255 = sym (half_is w.mask ∙ ap (λ n. n / 256) only) ∙ has in omega (arith, none))

    at_high : w.mask ≡ 0o177400 → Side b → IsAt w b
    at_high only (is_high odd half_is) = is_at w (w.address + 1) (w.address + 2) b (of_high w only) (let e = is.even in omega (arith, word, odd, e)) (let e = is.even in omega (arith, word, odd, e))
    at_high only (is_low even half_is) = absurd (let none : 0 ≡ 255 = sym (half_is w.mask ∙ ap (λ n. n % 256) only) ∙ has in omega (arith, none))

    at_both : w.mask ≡ 0o177777 → IsAt w b
    at_both whole = is_at w w.address (w.address + 2) b (of_both w whole) (let e = is.even in omega (arith, word, e)) (let e = is.even in omega (arith, word, e))

pub at_given : (w : WordValue) → IsWord w → (b : ℕ) → IsAt w b → gives w b ≡ true
at_given w is b at = elim is.inside.one_mask [
  | inl only ↦ by_low only (of_low w only) (side_of b)
  | inr (inl only) ↦ by_high only (of_high w only) (side_of b)
  | inr (inr whole) ↦ by_both whole (of_both w whole) (side_of b)
]
  where
    by_low : w.mask ≡ 0o377 → AreBytes w w.address (w.address + 1) → Side b → gives w b ≡ true
    by_low only are (is_low even half_is) = gives_it w.address w.mask b (let e = are.begin in let f = are.end in let l = at.from in let h = at.to in omega (arith, e, f, l, h)) (half_is w.mask ∙ ap (λ n. n % 256) only)
    by_low only are (is_high odd half_is) = absurd (let e = are.begin in let f = are.end in let l = at.from in let h = at.to in let even = is.even in omega (arith, e, f, l, h, odd, even))

    by_high : w.mask ≡ 0o177400 → AreBytes w (w.address + 1) (w.address + 2) → Side b → gives w b ≡ true
    by_high only are (is_high odd half_is) = gives_it w.address w.mask b (let e = are.begin in let f = are.end in let l = at.from in let h = at.to in let even = is.even in omega (arith, e, f, l, h, even)) (half_is w.mask ∙ ap (λ n. n / 256) only)
    by_high only are (is_low even' half_is) = absurd (let e = are.begin in let f = are.end in let l = at.from in let h = at.to in let even = is.even in omega (arith, e, f, l, h, even', even))

    by_both : w.mask ≡ 0o177777 → AreBytes w w.address (w.address + 2) → Side b → gives w b ≡ true
    by_both whole are (is_low even' half_is) = gives_it w.address w.mask b (let e = are.begin in let f = are.end in let l = at.from in let h = at.to in let even = is.even in omega (arith, e, f, l, h, even)) (half_is w.mask ∙ ap (λ n. n % 256) whole)
    by_both whole are (is_high odd half_is) = gives_it w.address w.mask b (let e = are.begin in let f = are.end in let l = at.from in let h = at.to in let even = is.even in omega (arith, e, f, l, h, even)) (half_is w.mask ∙ ap (λ n. n / 256) whole)

-- one byte or two, in one word
pub record InWord (w : WordValue) : Type 0 where
  pub some : (bytes_of w).from < (bytes_of w).to
  pub low : w.address ≤ (bytes_of w).from
  pub high : (bytes_of w).to ≤ w.address + 2

pub in_word : (w : WordValue) → IsWord w → InWord w
in_word w is = elim is.inside.one_mask [
  | inl only ↦ by w.address (w.address + 1) (of_low w only) (omega arith) (omega arith) (omega arith)
  | inr (inl only) ↦ by (w.address + 1) (w.address + 2) (of_high w only) (omega arith) (omega arith) (omega arith)
  | inr (inr whole) ↦ by w.address (w.address + 2) (of_both w whole) (omega arith) (omega arith) (omega arith)
]
  where
    by : (from to : ℕ) → AreBytes w from to → from < to → w.address ≤ from → to ≤ w.address + 2 → InWord w
    by from to are some low high = record {
      some = (let e = are.begin in let f = are.end in omega (arith, e, f, some));
      low = (let e = are.begin in omega (arith, e, low));
      high = (let f = are.end in omega (arith, f, high));
    }
