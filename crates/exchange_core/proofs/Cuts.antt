-- The addresses of stretches are those of the chunks.
use Rattle.std.proofs.Common.{◌≡◌, ℕ, zero, suc, ◌+◌, ◌-◌, ◌<◌, List, [], ◌∷◌, ◌++◌, length, map, take, get_or, inl, inr, refl, arith, ap, sym, subst, ◌∙◌, append_assoc, append-nil, length-append}
use Rattle.std.specs.Prelude.{All}
use Rattle.std.proofs.lemmas.List.{map-append, get_or_append_left, get_or-append_right, take_more}
use Rattle.std.proofs.lemmas.List.Elements.{All-nil, All-push}
use Rattle.exchange_core.specs.declared.chunk.Chunk.{Chunk}
use Rattle.exchange_core.specs.declared.stretch.Stretch.{Stretch}
use Rattle.exchange_core.specs.Chunk.{chunk_nr, no_chunk}
use Rattle.exchange_core.specs.Stretch.{places_from, places, stretch_of}
use Rattle.exchange_core.specs.Chunking.{AreCut, AreStretches, IsTakenUp, end_of}

-- from one address up to another
abbrev from_to : ℕ → ℕ → Stretch
from_to a b = record { from = a; to = b }

-- some addresses, and some more
places_more : (n m a b : ℕ) → a + n ≡ b → places_from (n + m) a ≡ places_from n a ++ places_from m b
places_more zero m a b is = ap (λ n. places_from n a) (none m) ∙ ap (places_from m) (same a b is)
  where
    none : (m : ℕ) → 0 + m ≡ m
    none m = omega arith

    same : (a b : ℕ) → a + 0 ≡ b → a ≡ b
    same a b is = omega (arith, is)
places_more (suc n) m a b is = ap (λ k. places_from k a) (one n m) ∙ ap (λ rest. a ∷ rest) (places_more n m (a + 1) b (next a n b is))
  where
    one : (n m : ℕ) → suc n + m ≡ suc (n + m)
    one n m = omega arith

    next : (a n b : ℕ) → a + suc n ≡ b → a + 1 + n ≡ b
    next a n b is = omega (arith, is)

places_append : (xs ys : List Stretch) → places (xs ++ ys) ≡ places xs ++ places ys
places_append [] ys = refl
places_append (x ∷ xs) ys = ap (λ rest. places_from (x.to - x.from) x.from ++ rest) (places_append xs ys) ∙ sym (append_assoc (places_from (x.to - x.from) x.from) (places xs) (places ys))

places_last : (xs : List Stretch) (from to : ℕ) → places (xs ++ from_to from to ∷ []) ≡ places xs ++ places_from (to - from) from
places_last xs from to = places_append xs (from_to from to ∷ []) ∙ ap (λ rest. places xs ++ rest) (append-nil (places_from (to - from) from))

-- the addresses of the chunks, and of one more
chunks_last : (chunks : List Chunk) (c : Chunk) → places (map stretch_of (chunks ++ c ∷ [])) ≡ places (map stretch_of chunks) ++ places_from (end_of c - c.address) c.address
chunks_last chunks c = ap places (map-append stretch_of chunks (c ∷ [])) ∙ places_last (map stretch_of chunks) c.address (end_of c)

-- what holds of each holds of those in front, and of the last
last_of : {A : Type 0} (xs : List A) (x d : A) → get_or (xs ++ x ∷ []) (length (xs ++ x ∷ []) - 1) d ≡ x
last_of {A} xs x d =
    let place : length (xs ++ x ∷ []) - 1 ≡ length xs = omega (arith, length-append xs (x ∷ [])) in
    ap (λ i. get_or (xs ++ x ∷ []) i d) place
    ∙ (get_or-append_right xs (x ∷ []) (length xs) (length xs) d refl (omega arith) ∙ (let none : length xs - length xs ≡ 0 = omega arith in ap (λ i. get_or (x ∷ []) i d) none))

all_front : {A : Type 0} (P : A → Type 0) (xs ys : List A) → All P (xs ++ ys) → All P xs
all_front {A} P xs ys all = λ k d below. subst P (get_or_append_left xs ys d k below) (all k d (omega (arith, below, length-append xs ys)))

all_last : {A : Type 0} (P : A → Type 0) (xs : List A) (x : A) → All P (xs ++ x ∷ []) → P x
all_last {A} P xs x all = subst P (last_of xs x x) (all (length (xs ++ x ∷ []) - 1) x (omega (arith, length-append xs (x ∷ []))))

-- ---- chunk by chunk

pub none_so_far : AreStretches [] []
none_so_far = record { places_are = refl; some = All-nil (λ s. s.from < s.to); few = omega arith }

-- a chunk that goes on with the last stretch, or begins one
so_far_grows : (chunks : List Chunk) (c : Chunk) (old new : List Stretch) (from : ℕ) → AreStretches chunks old → 0 < c.size → IsTakenUp old c.address from new →
    AreStretches (chunks ++ c ∷ []) (new ++ from_to from (end_of c) ∷ [])
so_far_grows chunks c old new from is some (inl taken) = record {
  places_are =
      places_last new from (end_of c)
      ∙ (ap (λ list. places new ++ list) (ap (λ n. places_from n from) counts ∙ places_more (c.address - from) (end_of c - c.address) from c.address there)
      ∙ (sym (append_assoc (places new) (places_from (c.address - from) from) (places_from (end_of c - c.address) c.address))
      ∙ (ap (λ list. list ++ places_from (end_of c - c.address) c.address) (sym (places_last new from c.address) ∙ (sym (ap places taken) ∙ is.places_are))
      ∙ sym (chunks_last chunks c))));
  some = All-push (λ s. s.from < s.to) new (from_to from (end_of c)) (all_front (λ s. s.from < s.to) new (from_to from c.address ∷ []) each) (omega (arith, less, some));
  few = let few = is.few in let old_length = ap length taken in
      omega (arith, few, old_length, length-append new (from_to from c.address ∷ []), length-append new (from_to from (end_of c) ∷ []), length-append chunks (c ∷ []));
}
  where
    each : All (λ s. s.from < s.to) (new ++ from_to from c.address ∷ [])
    each = subst (All (λ s. s.from < s.to)) taken is.some

    less : from < c.address
    less = all_last (λ s. s.from < s.to) new (from_to from c.address) each

    there : from + (c.address - from) ≡ c.address
    there = omega (arith, less)

    counts : end_of c - from ≡ c.address - from + (end_of c - c.address)
    counts = omega (arith, less, some)
so_far_grows chunks c old new from is some (inr (same, here)) = record {
  places_are =
      places_last new from (end_of c)
      ∙ (ap (λ a. places new ++ places_from (end_of c - a) a) here
      ∙ (ap (λ list. list ++ places_from (end_of c - c.address) c.address) (ap places same ∙ is.places_are)
      ∙ sym (chunks_last chunks c)));
  some = All-push (λ s. s.from < s.to) new (from_to from (end_of c)) (subst (All (λ s. s.from < s.to)) (sym same) is.some) (omega (arith, here, some));
  few = let few = is.few in let old_length = ap length same in omega (arith, few, old_length, length-append new (from_to from (end_of c) ∷ []), length-append chunks (c ∷ []));
}

-- the chunk number k is the next
pub so_far_next : (chunks : List Chunk) (k from : ℕ) (old new : List Stretch) → k < length chunks → AreCut chunks → AreStretches (take k chunks) old → IsTakenUp old (chunk_nr chunks k).address from new →
    AreStretches (take (k + 1) chunks) (new ++ from_to from (end_of (chunk_nr chunks k)) ∷ [])
so_far_next chunks k from old new below cut is taken =
    let P : List Chunk → Type 0 = λ front. AreStretches front (new ++ from_to from (end_of (chunk_nr chunks k)) ∷ []) in
    subst P (sym (take_more chunks k no_chunk below)) (so_far_grows (take k chunks) (chunk_nr chunks k) old new from is (cut.some k below) taken)
