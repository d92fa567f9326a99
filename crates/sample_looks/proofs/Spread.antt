-- The places of samples are spread, and the samples' addresses rise.
use Rattle.std.proofs.Common.{◌≡◌, ℕ, zero, suc, ◌+◌, ◌-◌, ◌*◌, ◌/◌, ◌^◌, ◌<◌, ◌≤◌, Bool, true, false, nat_le, nat_lt, min, List, [], ◌∷◌, ◌++◌, length, map, get_or, refl, arith, ap, sym, subst, ◌∙◌}
use Rattle.std.proofs.Math.Nat.{mul-le-mul_left}
use Rattle.std.specs.List.{range_with_len}
use Rattle.std.proofs.lemmas.Bool.Decides.{nat_tests}
use Rattle.std.proofs.lemmas.List.{get_or-map, get_or_default, length-map}
use Rattle.std.proofs.lemmas.List.Elements.{All-map}
use Rattle.std.proofs.lemmas.List.FromFn.{get_or-map-range_with_len, length-map-range_with_len, map-range_with_len_more}
use Rattle.tape_image.specs.Plan.{PlanValue, IsPlan}
use Rattle.tape_image.specs.Word.{WordValue}
use Rattle.host_core.specs.Core.{no_word, word_nr}
use Rattle.reading_core.specs.Addresses.{AreAddresses, IsAddress, addresses_of}
use Rattle.sample_looks.specs.Places.{place_of}
use Rattle.sample_looks.specs.Samples.{AreSamples, AreSpread}

-- ---- one place

small : (count number : ℕ) → count ≤ 8 → place_of count number ≡ number
small count number few = grind (arith, nat_tests)

large : (count number : ℕ) → 8 < count → place_of count number ≡ number * (count - 1) / 7
large count number many = grind (arith, nat_tests)

-- from a multiple to the next there are as many sevenths, or one more
sevenths : (x d : ℕ) → (x / 7 + d / 7 ≤ (x + d) / 7) × ((x + d) / 7 ≤ x / 7 + d / 7 + 1)
sevenths x d = (omega arith, omega arith)

next_multiple : (number d : ℕ) → (number + 1) * d ≡ number * d + d
next_multiple number d = omega arith

next_large : (count number : ℕ) → 8 < count → (place_of count number + (count - 1) / 7 ≤ place_of count (number + 1)) × (place_of count (number + 1) ≤ place_of count number + (count - 1) / 7 + 1)
next_large count number many =
    subst (λ here. (here + (count - 1) / 7 ≤ place_of count (number + 1)) × (place_of count (number + 1) ≤ here + (count - 1) / 7 + 1)) (sym (large count number many))
    (subst (λ there. (number * (count - 1) / 7 + (count - 1) / 7 ≤ there) × (there ≤ number * (count - 1) / 7 + (count - 1) / 7 + 1)) (sym (large count (number + 1) many ∙ ap (λ n. n / 7) (next_multiple number (count - 1))))
    (sevenths (number * (count - 1)) (count - 1)))

-- a choice by how many they are
by_number : (count : ℕ) (P : Type 0) → (count ≤ 8 → P) → (8 < count → P) → P
by_number count P few many = by (nat_le count 8) refl
  where
    by : (test : Bool) → nat_le count 8 ≡ test → P
    by true e = few (grind (arith, nat_tests))
    by false e = many (grind (arith, nat_tests))

-- ---- all places

abbrev pub places_for : ℕ → ℕ → List ℕ
places_for count number = map (place_of count) (range_with_len 0 number)

nr_place : (count number i : ℕ) → i < number → get_or (places_for count number) i 0 ≡ place_of count i
nr_place count number i low = get_or-map-range_with_len (place_of count) 0 number i i 0 low (omega arith)

length_places : (count number : ℕ) → length (places_for count number) ≡ number
length_places count number = length-map-range_with_len (place_of count) 0 number

even_by : (count number step : ℕ) → ((i : ℕ) → (place_of count i + step ≤ place_of count (i + 1)) × (place_of count (i + 1) ≤ place_of count i + step + 1)) → (i : ℕ) → i + 1 < length (places_for count number) →
    (get_or (places_for count number) i 0 + step ≤ get_or (places_for count number) (i + 1) 0) × (get_or (places_for count number) (i + 1) 0 ≤ get_or (places_for count number) i 0 + step + 1)
even_by count number step next i low =
    let below : i + 1 < number = subst (λ n. i + 1 < n) (length_places count number) low in
    subst (λ here. (here + step ≤ get_or (places_for count number) (i + 1) 0) × (get_or (places_for count number) (i + 1) 0 ≤ here + step + 1)) (sym (nr_place count number i (omega (arith, below))))
    (subst (λ there. (place_of count i + step ≤ there) × (there ≤ place_of count i + step + 1)) (sym (nr_place count number (i + 1) below)) (next i))

next_small : (count i : ℕ) → count ≤ 8 → (place_of count i + 1 ≤ place_of count (i + 1)) × (place_of count (i + 1) ≤ place_of count i + 1 + 1)
next_small count i few =
    subst (λ here. (here + 1 ≤ place_of count (i + 1)) × (place_of count (i + 1) ≤ here + 1 + 1)) (sym (small count i few))
    (subst (λ there. (i + 1 ≤ there) × (there ≤ i + 1 + 1)) (sym (small count (i + 1) few)) (omega arith, omega arith))

first_is : (count : ℕ) → place_of count 0 ≡ 0
first_is count = by_number count (place_of count 0 ≡ 0) (λ few. small count 0 few) (λ many. large count 0 many ∙ none (count - 1))
  where
    none : (d : ℕ) → 0 * d / 7 ≡ 0
    none d = omega arith

last_is : (count i : ℕ) → i + 1 ≡ min count 8 → place_of count i + 1 ≡ count
last_is count i is = by_number count (place_of count i + 1 ≡ count)
    (λ few. ap (λ p. p + 1) (small count i few) ∙ omega (arith, is, few))
    (λ many. ap (λ p. p + 1) (large count i many) ∙ (ap (λ n. n * (count - 1) / 7 + 1) (seven many) ∙ whole count many))
  where
    seven : 8 < count → i ≡ 7
    seven many = omega (arith, is, many)

    whole : (count : ℕ) → 8 < count → 7 * (count - 1) / 7 + 1 ≡ count
    whole count many = omega (arith, many)

pub spread : (count number : ℕ) → number ≡ min count 8 → AreSpread count (places_for count number)
spread count number is = by_number count (AreSpread count (places_for count number))
    (λ few. made 1 (omega arith) (λ i. next_small count i few))
    (λ many. made ((count - 1) / 7) (omega (arith, many)) (λ i. next_large count i many))
  where
    made : (step : ℕ) → 0 < step → ((i : ℕ) → (place_of count i + step ≤ place_of count (i + 1)) × (place_of count (i + 1) ≤ place_of count i + step + 1)) → AreSpread count (places_for count number)
    made step rising next = record {
      number = length_places count number ∙ is;
      first = λ some. nr_place count number 0 (omega (arith, is, some)) ∙ first_is count;
      last = λ i end.
          let all : i + 1 ≡ number = end ∙ length_places count number in
          ap (λ p. p + 1) (nr_place count number i (omega (arith, all))) ∙ last_is count i (all ∙ is);
      step = step;
      rising = rising;
      even = even_by count number step next;
    }

-- ---- places rise, and lie among the words

step_up : (count i : ℕ) → place_of count i < place_of count (i + 1)
step_up count i = by_number count (place_of count i < place_of count (i + 1))
    (λ few. let next = next_small count i few in let low = next.0 in omega (arith, low))
    (λ many. let next = next_large count i many in let low = next.0 in omega (arith, low, many))

rises : (count i j : ℕ) → i < j → place_of count i < place_of count j
rises count i zero before = absurd (omega (arith, before))
rises count i (suc j) before = by (nat_lt i j) refl (λ low. rises count i j low)
  where
    next : (n : ℕ) → n + 1 ≡ suc n
    next n = omega arith

    up : place_of count j < place_of count (suc j)
    up = subst (λ k. place_of count j < place_of count k) (next j) (step_up count j)

    below : nat_lt i j ≡ true → i < j
    below e = grind (arith, nat_tests)

    equal : nat_lt i j ≡ false → j ≡ i
    equal e = grind (arith, nat_tests, before)

    by : (test : Bool) → nat_lt i j ≡ test → (i < j → place_of count i < place_of count j) → place_of count i < place_of count (suc j)
    by true e earlier = let low = earlier (below e) in omega (arith, low, up)
    by false e earlier = subst (λ k. place_of count k < place_of count (suc j)) (equal e) up

pub within : (count i : ℕ) → i < min count 8 → place_of count i < count
within count i low = by_number count (place_of count i < count)
    (λ few. subst (λ p. p < count) (sym (small count i few)) (omega (arith, low)))
    (λ many. upto many (nat_lt i 7) refl)
  where
    end : 8 < count → place_of count 7 + 1 ≡ count
    end many = last_is count 7 (omega (arith, many))

    upto : 8 < count → (test : Bool) → nat_lt i 7 ≡ test → place_of count i < count
    upto many true e = let below = rises count i 7 (grind (arith, nat_tests)) in omega (arith, below, end many)
    upto many false e = subst (λ k. place_of count k < count) (last e) (omega (arith, end many))
      where
        last : nat_lt i 7 ≡ false → 7 ≡ i
        last e = grind (arith, nat_tests, low)

-- ---- the samples

-- the words at these places
abbrev pub words_at : List WordValue → ℕ → ℕ → List WordValue
words_at words count number = map (λ i. word_nr words (place_of count i)) (range_with_len 0 number)

at_places : (words : List WordValue) (count : ℕ) (numbers : List ℕ) → map (λ i. word_nr words (place_of count i)) numbers ≡ map (word_nr words) (map (place_of count) numbers)
at_places words count [] = refl
at_places words count (n ∷ numbers) = ap (λ rest. word_nr words (place_of count n) ∷ rest) (at_places words count numbers)

pub samples : (words : List WordValue) (count number : ℕ) → number ≡ min count 8 → AreSamples words count (words_at words count number)
samples words count number is = (places_for count number, spread count number is, at_places words count (range_with_len 0 number))

length_samples : (words : List WordValue) (count number : ℕ) → length (words_at words count number) ≡ number
length_samples words count number = length-map-range_with_len (λ k. word_nr words (place_of count k)) 0 number

nr_sample : (words : List WordValue) (count number i d : ℕ) → i < number → get_or (addresses_of (words_at words count number)) i d ≡ (word_nr words (place_of count i)).address
nr_sample words count number i d low =
    get_or-map (λ (w : WordValue). w.address) (words_at words count number) i no_word d (subst (λ n. i < n) (sym (length_samples words count number)) low)
    ∙ ap (λ (w : WordValue). w.address) (get_or-map-range_with_len (λ k. word_nr words (place_of count k)) 0 number i i no_word low (omega arith))

length_addresses : (words : List WordValue) (count number : ℕ) → length (addresses_of (words_at words count number)) ≡ number
length_addresses words count number = length-map (words_at words count number) (λ (w : WordValue). w.address) ∙ length_samples words count number

pub asked : (plan : PlanValue) (count number : ℕ) → IsPlan plan → count ≤ length plan.words → number ≡ min count 8 → AreAddresses (addresses_of (words_at plan.words count number))
asked plan count number p few is = record {
  each = All-map IsAddress (λ (w : WordValue). w.address) (words_at plan.words count number) (λ k d low. one k d (subst (λ n. k < n) (length_samples plan.words count number) low));
  rising = λ i j d before low.
      let last : j < number = subst (λ n. j < n) (length_addresses plan.words count number) low in
      rw (nr_sample plan.words count number i d (omega (arith, last, before)), nr_sample plan.words count number j d last)
      (p.rising (place_of count i) (place_of count j) no_word (rises count i j before) (there j last));
  few = omega (arith, length_addresses plan.words count number, is);
}
  where
    there : (i : ℕ) → i < number → place_of count i < length plan.words
    there i low = let inside = within count i (omega (arith, low, is)) in omega (arith, inside, few)

    one : (k : ℕ) (d : WordValue) → k < number → IsAddress (get_or (words_at plan.words count number) k d).address
    one k d low =
        let is_word = p.each (place_of count k) no_word (there k low) in
        subst (λ (w : WordValue). IsAddress w.address) (sym (get_or-map-range_with_len (λ i. word_nr plan.words (place_of count i)) 0 number k k d low (omega arith)))
        (record { even = is_word.even; below = is_word.below })

-- ---- one sample more

pub next_sample : (words items : List WordValue) (count i place : ℕ) (x : WordValue) → items ≡ words_at words count i → place ≡ place_of count i → x ≡ get_or words place x → place < length words → items ++ x ∷ [] ≡ words_at words count (i + 1)
next_sample words items count i place x is there read below =
    ap (λ list. list ++ x ∷ []) is
    ∙ (ap (λ w. words_at words count i ++ w ∷ []) (read ∙ (get_or_default words place x no_word below ∙ ap (word_nr words) there))
    ∙ sym (map-range_with_len_more (λ k. word_nr words (place_of count k)) 0 i i (omega arith)))

-- ---- as the code goes

pub inside : (whole words : List WordValue) (count number i place : ℕ) → words ≡ whole → count ≤ length whole → number ≡ min count 8 → i < number → place ≡ place_of count i → place < length words
inside whole words count number i place same few all low is =
    let below : place_of count i < count = within count i (subst (λ n. i < n) all low) in
    subst (λ p. p < length words) (sym is) (shorter (place_of count i) count (length whole) (length words) below few (ap length same))
  where
    shorter : (p count all have : ℕ) → p < count → count ≤ all → have ≡ all → p < have
    shorter p count all have below few same = omega (arith, below, few, same)

pub fits_word : (number count : ℕ) → number < 8 → count ≤ 28672 → number * (count - 1) < 2 ^ 64
fits_word number count few small = omega (arith, few, mul-le-mul_left number (less count small))
  where
    less : (count : ℕ) → count ≤ 28672 → count - 1 ≤ 28671
    less count small = omega (arith, small)

-- the samples when the loop is over
pub ended : (whole words items : List WordValue) (count i number : ℕ) → words ≡ whole → items ≡ words_at words count i → number ≤ i → i ≤ number → items ≡ words_at whole count number
ended whole words items count i number same is over within =
    is ∙ (ap (λ list. words_at list count i) same ∙ ap (words_at whole count) (equal i number over within))
  where
    equal : (i number : ℕ) → number ≤ i → i ≤ number → i ≡ number
    equal i number over within = omega (arith, over, within)
