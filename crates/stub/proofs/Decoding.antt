-- What is read out of memory is the stub that stands there.
use Rattle.std.proofs.Common.{◌≡◌, ◌≢◌, ℕ, zero, suc, ◌+◌, ◌*◌, ◌<◌, ◌≤◌, ◌⊎◌, Bool, true, false, not, if◌then◌else◌, List, [], ◌∷◌, ◌++◌, length, get_or, Option, Some, None, refl, arith, ap, sym, subst, ◌∙◌}
use Rattle.std.specs.Prelude.{nat_lt, nat_le, ◌==◌, ◌&&◌, ◌||◌}
use Rattle.std.proofs.lemmas.Bool.Decides.{nat_tests}
use Rattle.tape_image.specs.Memory.{top_of}
use Rattle.odt_machine.specs.Machine.{is_word, word_at}
use Rattle.exchange_core.specs.declared.stretch.Stretch.{Stretch}
use Rattle.stub.specs.Words.{code, code_bytes, table}
use Rattle.stub.specs.Place.{AreThere, StretchFits, StretchesFit, stub_end, StubStands}
use Rattle.stub.specs.Decoder.{has_words, put_before, table_at, fits, all_fit, fitting, stub_at, StubsAreFound}
use Rattle.stub.proofs.Sizes.{table_size}

both : (x y : Bool) → (x && y) ≡ true → (x ≡ true) × (y ≡ true)
both true true h = (refl, refl)
both true false h = absurd (cc)
both false y h = absurd (cc)

together : (x y : Bool) → x ≡ true → y ≡ true → (x && y) ≡ true
together x y is also = rw (is, also) refl

same : (a b : ℕ) → (a == b) ≡ true → a ≡ b
same a b h = grind (arith, nat_tests)

same_so : (a b : ℕ) → a ≡ b → (a == b) ≡ true
same_so a b h = grind (arith, nat_tests)

-- ---- words that are there

there_none : (memory : List ℕ) (a : ℕ) → AreThere memory a []
there_none memory a i inside = absurd (omega arith)

there_cons : (memory : List ℕ) (a w : ℕ) (ws : List ℕ) → is_word memory a ≡ true → word_at memory a ≡ w → AreThere memory (a + 2) ws → AreThere memory a (w ∷ ws)
there_cons memory a w ws is has rest zero inside = subst (λ x. (is_word memory x ≡ true) × (word_at memory x ≡ w)) (first a) (is, has)
  where
    first : (a : ℕ) → a ≡ a + 2 * 0
    first a = omega arith
there_cons memory a w ws is has rest (suc i) inside = subst (λ x. (is_word memory x ≡ true) × (word_at memory x ≡ get_or ws i 0)) (next a i) (rest i (fewer i (length ws) inside))
  where
    next : (a i : ℕ) → a + 2 + 2 * i ≡ a + 2 * suc i
    next a i = omega arith

    fewer : (i n : ℕ) → suc i < suc n → i < n
    fewer i n less = omega arith

there_head : (memory : List ℕ) (a w : ℕ) (ws : List ℕ) → AreThere memory a (w ∷ ws) → (is_word memory a ≡ true) × (word_at memory a ≡ w)
there_head memory a w ws there = subst (λ x. (is_word memory x ≡ true) × (word_at memory x ≡ w)) (first a) (there 0 (omega arith))
  where
    first : (a : ℕ) → a + 2 * 0 ≡ a
    first a = omega arith

there_tail : (memory : List ℕ) (a w : ℕ) (ws : List ℕ) → AreThere memory a (w ∷ ws) → AreThere memory (a + 2) ws
there_tail memory a w ws there i inside = subst (λ x. (is_word memory x ≡ true) × (word_at memory x ≡ get_or ws i 0)) (next a i) (there (suc i) (more i (length ws) inside))
  where
    next : (a i : ℕ) → a + 2 * suc i ≡ a + 2 + 2 * i
    next a i = omega arith

    more : (i n : ℕ) → i < n → suc i < suc n
    more i n less = omega arith

there_joined : (memory : List ℕ) (a : ℕ) (front ws : List ℕ) → AreThere memory a front → AreThere memory (a + 2 * length front) ws → AreThere memory a (front ++ ws)
there_joined memory a [] ws first rest = subst (λ x. AreThere memory x ws) (none a) rest
  where
    none : (a : ℕ) → a + 2 * 0 ≡ a
    none a = omega arith
there_joined memory a (w ∷ front) ws first rest =
    let head = there_head memory a w front first in
    there_cons memory a w (front ++ ws) head.0 head.1 (there_joined memory (a + 2) front ws (there_tail memory a w front first) (subst (λ x. AreThere memory x ws) (on a (length front)) rest))
  where
    on : (a n : ℕ) → a + 2 * suc n ≡ a + 2 + 2 * n
    on a n = omega arith

there_front : (memory : List ℕ) (a : ℕ) (front ws : List ℕ) → AreThere memory a (front ++ ws) → AreThere memory a front
there_front memory a [] ws there = there_none memory a
there_front memory a (w ∷ front) ws there =
    let head = there_head memory a w (front ++ ws) there in
    there_cons memory a w front head.0 head.1 (there_front memory (a + 2) front ws (there_tail memory a w (front ++ ws) there))

there_behind : (memory : List ℕ) (a : ℕ) (front ws : List ℕ) → AreThere memory a (front ++ ws) → AreThere memory (a + 2 * length front) ws
there_behind memory a [] ws there = subst (λ x. AreThere memory x ws) (none a) there
  where
    none : (a : ℕ) → a ≡ a + 2 * 0
    none a = omega arith
there_behind memory a (w ∷ front) ws there =
    subst (λ x. AreThere memory x ws) (on a (length front)) (there_behind memory (a + 2) front ws (there_tail memory a w (front ++ ws) there))
  where
    on : (a n : ℕ) → a + 2 + 2 * n ≡ a + 2 * suc n
    on a n = omega arith

has_there : (memory : List ℕ) (a : ℕ) (ws : List ℕ) → has_words memory a ws ≡ true → AreThere memory a ws
has_there memory a [] h = there_none memory a
has_there memory a (w ∷ ws) h =
    let first = both (is_word memory a && (word_at memory a == w)) (has_words memory (a + 2) ws) h in
    let second = both (is_word memory a) (word_at memory a == w) first.0 in
    there_cons memory a w ws second.0 (same (word_at memory a) w second.1) (has_there memory (a + 2) ws first.1)

there_has : (memory : List ℕ) (a : ℕ) (ws : List ℕ) → AreThere memory a ws → has_words memory a ws ≡ true
there_has memory a [] there = refl
there_has memory a (w ∷ ws) there =
    let head = there_head memory a w ws there in
    together (is_word memory a && (word_at memory a == w)) (has_words memory (a + 2) ws)
    (together (is_word memory a) (word_at memory a == w) head.0 (same_so (word_at memory a) w head.1)) (there_has memory (a + 2) ws (there_tail memory a w ws there))

-- ---- the table

some_put : (stretch : Stretch) (those : Option (List Stretch)) (stretches : List Stretch) → put_before stretch those ≡ Some stretches → (rest : List Stretch) × (those ≡ Some rest) × (stretches ≡ stretch ∷ rest)
some_put stretch None stretches h = absurd (cc)
some_put stretch (Some rest) stretches h = (rest, refl, cc)

table_there : (n : ℕ) (memory : List ℕ) (a : ℕ) (stretches : List Stretch) → table_at n memory a ≡ Some stretches → AreThere memory a (table stretches)
table_there zero memory a stretches h = absurd (cc)
table_there (suc n) memory a stretches h = by_word (table_there n memory (a + 4)) (is_word memory a) refl h
  where
    by_start : ((rest : List Stretch) → table_at n memory (a + 4) ≡ Some rest → AreThere memory (a + 4) (table rest)) → (test : Bool) → is_word memory (a + 2) ≡ test → is_word memory a ≡ true → (if not test then None else put_before (record { from = word_at memory (a + 2); to = word_at memory a }) (table_at n memory (a + 4))) ≡ Some stretches → AreThere memory a (table stretches)
    by_start others false e is h = absurd (cc)
    by_start others true e is h =
        let put = some_put (record { from = word_at memory (a + 2); to = word_at memory a }) (table_at n memory (a + 4)) stretches h in
        subst (λ ss. AreThere memory a (table ss)) (sym put.2)
        (there_cons memory a (word_at memory a) (word_at memory (a + 2) ∷ table put.0) is refl
        (there_cons memory (a + 2) (word_at memory (a + 2)) (table put.0) e refl
        (subst (λ x. AreThere memory x (table put.0)) (four a) (others put.0 put.1))))
      where
        four : (a : ℕ) → a + 4 ≡ a + 2 + 2
        four a = omega arith

    by_end : ((rest : List Stretch) → table_at n memory (a + 4) ≡ Some rest → AreThere memory (a + 4) (table rest)) → (test : Bool) → (word_at memory a == 0) ≡ test → is_word memory a ≡ true → (if test then Some [] else if not (is_word memory (a + 2)) then None else put_before (record { from = word_at memory (a + 2); to = word_at memory a }) (table_at n memory (a + 4))) ≡ Some stretches → AreThere memory a (table stretches)
    by_end others true e is h = subst (λ ss. AreThere memory a (table ss)) (ended stretches h) (there_cons memory a 0 [] is (same (word_at memory a) 0 e) (there_none memory (a + 2)))
      where
        ended : (stretches : List Stretch) → Some [] ≡ Some stretches → [] ≡ stretches
        ended stretches h = cc
    by_end others false e is h = by_start others (is_word memory (a + 2)) refl is h

    by_word : ((rest : List Stretch) → table_at n memory (a + 4) ≡ Some rest → AreThere memory (a + 4) (table rest)) → (test : Bool) → is_word memory a ≡ test → (if not test then None else if word_at memory a == 0 then Some [] else if not (is_word memory (a + 2)) then None else put_before (record { from = word_at memory (a + 2); to = word_at memory a }) (table_at n memory (a + 4))) ≡ Some stretches → AreThere memory a (table stretches)
    by_word others false e h = absurd (cc)
    by_word others true e h = by_end others (word_at memory a == 0) refl e h

-- no stretch of a table ends at 0
abbrev Rise : List Stretch → Type 0
Rise [] = Unit {0}
Rise (stretch ∷ stretches) = (stretch.to ≢ 0) × Rise stretches

there_table : (n : ℕ) (memory : List ℕ) (a : ℕ) (stretches : List Stretch) → length stretches < n → Rise stretches → AreThere memory a (table stretches) → table_at n memory a ≡ Some stretches
there_table zero memory a stretches few rise there = absurd (omega arith)
there_table (suc n) memory a [] few rise there =
    let head = there_head memory a 0 [] there in
    rw (head.0, same_so (word_at memory a) 0 head.1) refl
there_table (suc n) memory a (stretch ∷ stretches) few rise there =
    let head = there_head memory a stretch.to (stretch.from ∷ table stretches) there in
    let second = there_head memory (a + 2) stretch.from (table stretches) (there_tail memory a stretch.to (stretch.from ∷ table stretches) there) in
    let rest = there_table n memory (a + 4) stretches (fewer (length stretches) n few) rise.1
    (subst (λ x. AreThere memory x (table stretches)) (four a) (there_tail memory (a + 2) stretch.from (table stretches) (there_tail memory a stretch.to (stretch.from ∷ table stretches) there))) in
    rw (head.0, other (word_at memory a) stretch.to head.1 rise.0, second.0, rest, head.1, second.1) refl
  where
    fewer : (k n : ℕ) → suc k < suc n → k < n
    fewer k n less = omega arith

    four : (a : ℕ) → a + 2 + 2 ≡ a + 4
    four a = omega arith

    other : (w e : ℕ) → w ≡ e → e ≢ 0 → (w == 0) ≡ false
    other w e is isnt = grind (arith, nat_tests)

-- ---- stretches that fit

fits_so : (place until top : ℕ) (stretch : Stretch) → fits place until top stretch ≡ true → StretchFits place until top stretch
fits_so place until top stretch h = record {
  rising = one place until top stretch.from stretch.to h;
  below = two place until top stretch.from stretch.to h;
  apart = three place until top stretch.from stretch.to h;
}
  where
    one : (place until top from to : ℕ) → (nat_lt from to && nat_le to top && (nat_le to place || nat_le until from)) ≡ true → from < to
    one place until top from to h = grind (arith, nat_tests)

    two : (place until top from to : ℕ) → (nat_lt from to && nat_le to top && (nat_le to place || nat_le until from)) ≡ true → to ≤ top
    two place until top from to h = grind (arith, nat_tests)

    three : (place until top from to : ℕ) → (nat_lt from to && nat_le to top && (nat_le to place || nat_le until from)) ≡ true → (to ≤ place) ⊎ (until ≤ from)
    three place until top from to h = grind (arith, nat_tests)

so_fits : (place until top : ℕ) (stretch : Stretch) → StretchFits place until top stretch → fits place until top stretch ≡ true
so_fits place until top stretch fit = all place until top stretch.from stretch.to fit.rising fit.below fit.apart
  where
    all : (place until top from to : ℕ) → from < to → to ≤ top → (to ≤ place) ⊎ (until ≤ from) → (nat_lt from to && nat_le to top && (nat_le to place || nat_le until from)) ≡ true
    all place until top from to rising below apart = grind (arith, nat_tests)

pub all_fit_so : (place until top : ℕ) (stretches : List Stretch) → all_fit place until top stretches ≡ true → StretchesFit place until top stretches
all_fit_so place until top [] h = tt
all_fit_so place until top (stretch ∷ stretches) h =
    let split = both (fits place until top stretch) (all_fit place until top stretches) h in
    (fits_so place until top stretch split.0, all_fit_so place until top stretches split.1)

pub so_all_fit : (place until top : ℕ) (stretches : List Stretch) → StretchesFit place until top stretches → all_fit place until top stretches ≡ true
so_all_fit place until top [] fit = refl
so_all_fit place until top (stretch ∷ stretches) fit =
    together (fits place until top stretch) (all_fit place until top stretches) (so_fits place until top stretch fit.0) (so_all_fit place until top stretches fit.1)

rise : (place until top : ℕ) (stretches : List Stretch) → StretchesFit place until top stretches → Rise stretches
rise place until top [] fit = tt
rise place until top (stretch ∷ stretches) fit = (some stretch.from stretch.to fit.0.rising, rise place until top stretches fit.1)
  where
    some : (from to : ℕ) → from < to → to ≢ 0
    some from to less = omega arith

-- ---- the stub

found_stands : (memory : List ℕ) (place : ℕ) (stretches : List Stretch) → stub_at memory place ≡ Some stretches → StubStands memory place stretches
found_stands memory place stretches h = by_code (has_words memory place (code place)) refl h
  where
    by_fit : (those : List Stretch) (test : Bool) → table_at (length memory) memory (place + code_bytes) ≡ Some those → has_words memory place (code place) ≡ true →
        all_fit place (stub_end place those) (top_of memory) those ≡ test → (if test then Some those else None) ≡ Some stretches → StubStands memory place stretches
    by_fit those false is has e h = absurd (cc)
    by_fit those true is has e h =
        subst (StubStands memory place) (one those h) record {
          words = there_joined memory place (code place) (table those) (has_there memory place (code place) has) (table_there (length memory) memory (place + code_bytes) those is);
          fit = all_fit_so place (stub_end place those) (top_of memory) those e;
        }
      where
        one : (those : List Stretch) → Some those ≡ Some stretches → those ≡ stretches
        one those h = cc

    by_table : (those : Option (List Stretch)) → table_at (length memory) memory (place + code_bytes) ≡ those → has_words memory place (code place) ≡ true → fitting memory place those ≡ Some stretches → StubStands memory place stretches
    by_table None is has h = absurd (cc)
    by_table (Some those) is has h = by_fit those (all_fit place (stub_end place those) (top_of memory) those) is has refl h

    by_code : (test : Bool) → has_words memory place (code place) ≡ test → (if test then fitting memory place (table_at (length memory) memory (place + code_bytes)) else None) ≡ Some stretches → StubStands memory place stretches
    by_code false e h = absurd (cc)
    by_code true e h = by_table (table_at (length memory) memory (place + code_bytes)) refl e h

-- a table has no more stretches than memory has words
few_stretches : (memory : List ℕ) (a : ℕ) (stretches : List Stretch) → AreThere memory a (table stretches) → length stretches < length memory
few_stretches memory a stretches there = fewer (length stretches) (length (table stretches)) (length memory) a (table_size stretches) (low memory (a + 2 * (2 * length stretches)) (there (2 * length stretches) (last (length stretches) (length (table stretches)) (table_size stretches))).0)
  where
    last : (n t : ℕ) → t ≡ 2 * n + 1 → 2 * n < t
    last n t is = omega arith

    low : (memory : List ℕ) (x : ℕ) → is_word memory x ≡ true → x < 2 * length memory
    low memory x h = grind (arith, nat_tests)

    fewer : (n t k a : ℕ) → t ≡ 2 * n + 1 → a + 2 * (2 * n) < 2 * k → n < k
    fewer n t k a is less = omega arith

stands_found : (memory : List ℕ) (place : ℕ) (stretches : List Stretch) → StubStands memory place stretches → stub_at memory place ≡ Some stretches
stands_found memory place stretches stands =
    let behind : AreThere memory (place + code_bytes) (table stretches) = there_behind memory place (code place) (table stretches) stands.words in
    let has = there_has memory place (code place) (there_front memory place (code place) (table stretches) stands.words) in
    let read = there_table (length memory) memory (place + code_bytes) stretches (few_stretches memory (place + code_bytes) stretches behind) (rise place (stub_end place stretches) (top_of memory) stretches stands.fit) behind in
    ap (λ test. if test then fitting memory place (table_at (length memory) memory (place + code_bytes)) else None) has
    ∙ (ap (fitting memory place) read
    ∙ ap (λ test. if test then Some stretches else None) (so_all_fit place (stub_end place stretches) (top_of memory) stretches stands.fit))

pub are_found : StubsAreFound
are_found memory place stretches = (found_stands memory place stretches, stands_found memory place stretches)
