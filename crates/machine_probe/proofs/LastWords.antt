-- The last words of pieces are addresses of words that rise.
use Rattle.std.proofs.Common.{◌≡◌, ℕ, zero, suc, ◌+◌, ◌-◌, ◌*◌, ◌%◌, ◌<◌, ◌≤◌, [], ◌∷◌, ◌++◌, length, get_or, refl, arith, ap, subst, sym, ◌∙◌, mul-suc, mul-zero, mul-le-mul_left, mul-le-mul_right}
use Rattle.std.specs.Prelude.{Result, Ok, Err, IsOk, is_ok, if◌then◌else◌}
use Rattle.reading_core.specs.Addresses.{AreAddresses}
use Rattle.machine_probe.specs.declared.pieces.Pieces.{Pieces}
use Rattle.machine_probe.specs.Passes.{ArePieces, last_words}

-- ---- one after another

pub none_last : (from bytes : ℕ) → last_words from bytes 0 ≡ []
unfolding last_words
none_last from bytes = refl

first_last : (from bytes n : ℕ) → last_words from bytes (suc n) ≡ (from + (bytes - 2)) ∷ last_words (from + bytes) bytes n
unfolding last_words
first_last from bytes n = refl

-- one piece further: from its end on as many as before
further : (from bytes n : ℕ) → from + bytes + bytes * n ≡ from + bytes * suc n
further from bytes n = omega (arith, mul-suc bytes n)

one_more : (from bytes n : ℕ) → last_words from bytes (suc n) ≡ last_words from bytes n ++ (from + bytes * n + (bytes - 2)) ∷ []
one_more from bytes zero = first_last from bytes 0 ∙ (ap (λ rest. (from + (bytes - 2)) ∷ rest) (none_last (from + bytes) bytes) ∙ (ap (λ a. a ∷ []) (at_first from) ∙ sym (ap (λ front. front ++ (from + bytes * 0 + (bytes - 2)) ∷ []) (none_last from bytes))))
  where
    at_first : (from : ℕ) → from + (bytes - 2) ≡ from + bytes * 0 + (bytes - 2)
    at_first from = omega (arith, mul-zero bytes)
one_more from bytes (suc n) =
    first_last from bytes (suc n)
    ∙ (ap (λ rest. (from + (bytes - 2)) ∷ rest) (one_more (from + bytes) bytes n)
    ∙ (ap (λ a. (from + (bytes - 2)) ∷ (last_words (from + bytes) bytes n ++ (a + (bytes - 2)) ∷ [])) (further from bytes n)
    ∙ sym (ap (λ front. front ++ (from + bytes * suc n + (bytes - 2)) ∷ []) (first_last from bytes n))))

pub one_more_last : (from bytes n : ℕ) → last_words from bytes (n + 1) ≡ last_words from bytes n ++ (from + bytes * n + (bytes - 2)) ∷ []
one_more_last from bytes n = ap (last_words from bytes) (next n) ∙ one_more from bytes n
  where
    next : (n : ℕ) → n + 1 ≡ suc n
    next n = omega arith

pub length_last : (from bytes n : ℕ) → length (last_words from bytes n) ≡ n
length_last from bytes zero = ap length (none_last from bytes)
length_last from bytes (suc n) = ap length (first_last from bytes n) ∙ ap suc (length_last (from + bytes) bytes n)

pub last_at : (from bytes n i d : ℕ) → i < n → get_or (last_words from bytes n) i d ≡ from + bytes * i + (bytes - 2)
last_at from bytes zero i d low = absurd (omega (arith, low))
last_at from bytes (suc n) zero d low = rw (first_last from bytes n) (omega (arith, mul-zero bytes))
last_at from bytes (suc n) (suc i) d low = rw (first_last from bytes n) (last_at (from + bytes) bytes n i d (omega (arith, low)) ∙ ap (λ a. a + (bytes - 2)) (further from bytes i))

-- what a push makes that succeeds
pub pushed : {T E A : Type 0} (result : Result T E) (grown kept now : A) → IsOk result → now ≡ (if is_ok result then grown else kept) → now ≡ grown
pushed (Ok done) grown kept now ok is = is
pushed (Err fault) grown kept now ok is = absurd (cc ok)

-- ---- they are addresses

-- before as many pieces and behind one more
pub next_end : (bytes i n : ℕ) → i < n → bytes * i + bytes ≤ bytes * n
next_end bytes i n low = let far : bytes * suc i ≤ bytes * n = mul-le-mul_left bytes (omega (arith, low)) in omega (arith, far, mul-suc bytes i)

pub even_times : (bytes i : ℕ) → bytes % 2 ≡ 0 → (bytes * i) % 2 ≡ 0
even_times bytes zero whole = omega (arith, mul-zero bytes)
even_times bytes (suc i) whole = omega (arith, mul-suc bytes i, whole, even_times bytes i whole)

pub last_asked : (from : ℕ) (pieces : Pieces) → ArePieces from pieces → AreAddresses (last_words from pieces.bytes pieces.count)
last_asked from pieces are = let bytes = pieces.bytes in let count = pieces.count in record {
  each = λ k d low. let within : k < count = subst (λ n. k < n) (length_last from bytes count) low in
      rw (last_at from bytes count k d within) record {
        even = omega (arith, are.even, are.whole, are.some, even_times bytes k are.whole);
        below = omega (arith, are.below, are.some, next_end bytes k count within);
      };
  rising = λ i j d before low. let within : j < count = subst (λ n. j < n) (length_last from bytes count) low in
      rw (last_at from bytes count i d (omega (arith, within, before)), last_at from bytes count j d within) (omega (arith, are.some, next_end bytes i j before));
  few = rw (length_last from bytes count) (let most : 2 * count ≤ bytes * count = mul-le-mul_right count are.some in omega (arith, most, are.below));
}
