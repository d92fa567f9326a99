-- What one written byte leaves of memory.
use Rattle.std.proofs.Common.{◌≡◌, ◌≢◌, ℕ, suc, ◌+◌, ◌*◌, ◌/◌, ◌%◌, ◌<◌, ◌≤◌, ◌⊎◌, true, List, [], ◌∷◌, ◌++◌, length, get_or, set, inl, inr, refl, arith, ap, sym, ◌∙◌, get_or-set_other, length-set}
use Rattle.std.proofs.lemmas.Grind.{get_or-set_at}
use Rattle.std.proofs.lemmas.List.{set_past}
use Rattle.std.proofs.lemmas.Bool.Decides.{nat_tests}
use Rattle.std.specs.Prelude.{slice_index}
use Rattle.tape_image.specs.Memory.{byte_of, half}
use Rattle.odt_machine.specs.Machine.{IsWide, is_word, word_at}
use Rattle.processor.specs.Access.{with_half, with_byte}
use Rattle.exchange_core.specs.declared.stretch.Stretch.{Stretch}
use Rattle.stub.specs.Words.{code, table}
use Rattle.stub.specs.Place.{AreThere}

pub same_or : (i j : ℕ) → (i ≡ j) ⊎ (i ≢ j)
same_or i j = grind arith

pub length_with : (memory : List ℕ) (a v : ℕ) → length (with_byte memory a v) ≡ length memory
length_with memory a v = length-set memory (a / 2) (with_half a (word_at memory a) v)

half_wide : (a word v : ℕ) → word < 65536 → v < 256 → with_half a word v < 65536
half_wide a word v w small = grind (arith, nat_tests)

wide_set : (xs : List ℕ) (i v : ℕ) → IsWide xs → v < 65536 → IsWide (set xs i v)
wide_set xs i v wide small j = elim (same_or j i) [
  | inl same ↦ elim (below (length xs) i) [
    | inl inside ↦ let now : get_or (set xs i v) j 0 ≡ v = get_or-set_at xs i j v 0 same inside in omega arith
    | inr past ↦ let now : get_or (set xs i v) j 0 ≡ get_or xs j 0 = ap (λ ys. get_or ys j 0) (set_past xs i v past) in let old = wide j in omega arith
  ]
  | inr apart ↦ let now : get_or (set xs i v) j 0 ≡ get_or xs j 0 = get_or-set_other xs i j v 0 apart in let old = wide j in omega arith
]
  where
    below : (n i : ℕ) → (i < n) ⊎ (n ≤ i)
    below n i = grind arith

pub wide_with : (memory : List ℕ) (a v : ℕ) → IsWide memory → v < 256 → IsWide (with_byte memory a v)
wide_with memory a v wide small = wide_set memory (a / 2) (with_half a (word_at memory a) v) wide (half_wide a (word_at memory a) v (wide (a / 2)) small)

-- another word stays
word_other : (memory : List ℕ) (a v b : ℕ) → b / 2 ≢ a / 2 → word_at (with_byte memory a v) b ≡ word_at memory b
word_other memory a v b apart = get_or-set_other memory (a / 2) (b / 2) (with_half a (word_at memory a) v) 0 apart

same_length : (memory other : List ℕ) (b : ℕ) → length other ≡ length memory → is_word memory b ≡ true → is_word other b ≡ true
same_length memory other b same h = rw same h

even_word : (memory : List ℕ) (a : ℕ) → is_word memory a ≡ true → a % 2 ≡ 0
even_word memory a h = grind (arith, nat_tests)

-- words stay where the byte isn't theirs
pub there_with : (memory : List ℕ) (place : ℕ) (words : List ℕ) (a v : ℕ) → AreThere memory place words → (a < place) ⊎ (place + 2 * length words ≤ a) → AreThere (with_byte memory a v) place words
there_with memory place words a v there outside i inside =
    let old = there i inside in
    let even : (place + 2 * i) % 2 ≡ 0 = even_word memory (place + 2 * i) old.0 in (
      same_length memory (with_byte memory a v) (place + 2 * i) (length_with memory a v) old.0,
      word_other memory a v (place + 2 * i) (apart place i a (length words) even inside outside) ∙ old.1,
    )
  where
    apart : (place i a n : ℕ) → (place + 2 * i) % 2 ≡ 0 → i < n → (a < place) ⊎ (place + 2 * n ≤ a) → (place + 2 * i) / 2 ≢ a / 2
    apart place i a n even inside (inl low) same = omega arith
    apart place i a n even inside (inr high) same = omega arith

-- ---- a byte elsewhere stays

half_other : (a b word v : ℕ) → v < 256 → word < 65536 → b ≢ a → b / 2 ≡ a / 2 → half b (with_half a word v) ≡ half b word
half_other a b word v small w apart same = grind (arith, nat_tests)

pub byte_other : (memory : List ℕ) (a v b : ℕ) → IsWide memory → v < 256 → b ≢ a → byte_of (with_byte memory a v) b ≡ byte_of memory b
byte_other memory a v b wide small apart = elim (same_or (b / 2) (a / 2)) [
  | inr elsewhere ↦ ap (half b) (word_other memory a v b elsewhere)
  | inl same ↦ elim (below (length memory) (a / 2)) [
    | inl inside ↦
        let now : slice_index (with_byte memory a v) (b / 2) ≡ with_half a (word_at memory a) v = get_or-set_at memory (a / 2) (b / 2) (with_half a (word_at memory a) v) 0 same inside in
        ap (half b) now ∙ (half_other a b (word_at memory a) v small (wide (a / 2)) apart same ∙ ap (λ i. half b (slice_index memory i)) (sym same))
    | inr past ↦ ap (λ ys. half b (slice_index ys (b / 2))) (set_past memory (a / 2) (with_half a (word_at memory a) v) past)
  ]
]
  where
    below : (n i : ℕ) → (i < n) ⊎ (n ≤ i)
    below n i = grind arith

-- ---- the stub's words

pub length_code : (place : ℕ) → length (code place) ≡ 63
length_code place = refl

-- the table behind some of its stretches
pub table_behind : (front stretches : List Stretch) (i : ℕ) → get_or (table (front ++ stretches)) (2 * length front + i) 0 ≡ get_or (table stretches) i 0
table_behind [] stretches i = ap (λ n. get_or (table stretches) n 0) (none i)
  where
    none : (i : ℕ) → 2 * 0 + i ≡ i
    none i = omega arith
table_behind (chunk ∷ front) stretches i =
    ap (λ n. get_or (chunk.to ∷ chunk.from ∷ table (front ++ stretches)) n 0) (two (length front) i) ∙ table_behind front stretches i
  where
    two : (n i : ℕ) → 2 * suc n + i ≡ suc (suc (2 * n + i))
    two n i = omega arith

pub table_length : (front stretches : List Stretch) → length (table (front ++ stretches)) ≡ 2 * length front + length (table stretches)
table_length [] stretches = none (length (table stretches))
  where
    none : (i : ℕ) → i ≡ 2 * 0 + i
    none i = omega arith
table_length (chunk ∷ front) stretches = let rest = table_length front stretches in omega arith
