-- Texts that are put one behind the other.
use Rattle.std.proofs.Common.{◌≡◌, ℕ, zero, suc, ◌+◌, ◌-◌, ◌<◌, ◌≤◌, Bool, true, false, ◌&&◌, nat_lt, if◌then◌else◌, List, [], ◌∷◌, ◌++◌, length, take, refl, arith, ap, sym, ◌∙◌, append-nil, length-append}
use Rattle.std.specs.List.{filter, flat_map}
use borrow.Author.Tests.{ltb-true, ltb-false}
use Rattle.std.proofs.lemmas.List.{length-take}
use Rattle.std.proofs.lemmas.List.Elements.{filter-append}
use Rattle.std.proofs.lemmas.Grind.{flat_map-append}
use Rattle.memory_report.specs.declared.findings.Word.{Word}
use Rattle.memory_report.specs.Report.{cell_text, cells_text, row_text, rows_text}
use Rattle.memory_report.specs.Words.{column}

pub no_cell : (words : List Word) (bank : ℕ) → cells_text words bank 0 ≡ []
unfolding cells_text
no_cell words bank = refl

next_cell : (words : List Word) (bank n : ℕ) → cells_text words bank (suc n) ≡ cells_text words bank n ++ cell_text (column words bank (15 - n))
unfolding cells_text
next_cell words bank n = refl

pub no_row : (words : List Word) (gaps : List ℕ) (first : ℕ) → rows_text words gaps first 0 ≡ []
unfolding rows_text
no_row words gaps first = refl

next_row : (words : List Word) (gaps : List ℕ) (first n : ℕ) → rows_text words gaps first (suc n) ≡ rows_text words gaps first n ++ row_text words gaps (first + n)
unfolding rows_text
next_row words gaps first n = refl

next : (n : ℕ) → n + 1 ≡ suc n
next n = omega arith

pub one_cell : (words : List Word) (bank n : ℕ) → cells_text words bank (n + 1) ≡ cells_text words bank n ++ cell_text (column words bank (15 - n))
one_cell words bank n = ap (cells_text words bank) (next n) ∙ next_cell words bank n

pub one_row : (words : List Word) (gaps : List ℕ) (first n : ℕ) → rows_text words gaps first (n + 1) ≡ rows_text words gaps first n ++ row_text words gaps (first + n)
one_row words gaps first n = ap (rows_text words gaps first) (next n) ∙ next_row words gaps first n

-- ---- the first eight that pass a test

take_none : {A : Type 0} (n : ℕ) → take {A = A} n [] ≡ []
take_none {A} zero = refl
take_none {A} (suc n) = refl

short : {A : Type 0} (n : ℕ) (ys : List A) (w : A) → length (take n ys) < n → take n (ys ++ w ∷ []) ≡ take n ys ++ w ∷ []
short {A} zero ys w low = absurd (omega (arith, low))
short {A} (suc n) [] w low = ap (λ t. w ∷ t) (take_none n)
short {A} (suc n) (y ∷ ys) w low = ap (λ t. y ∷ t) (short n ys w (omega (arith, low)))

long : {A : Type 0} (n : ℕ) (ys : List A) (w : A) → n ≤ length (take n ys) → take n (ys ++ w ∷ []) ≡ take n ys
long {A} zero ys w high = refl
long {A} (suc n) [] w high = absurd (omega (arith, high))
long {A} (suc n) (y ∷ ys) w high = ap (λ t. y ∷ t) (long n ys w (omega (arith, high)))

abbrev only_if : {A : Type 0} → Bool → A → List A
only_if {A} test w = if test then w ∷ [] else []

one_passes : {A : Type 0} (p : A → Bool) (w : A) → filter p (w ∷ []) ≡ only_if (p w) w
one_passes {A} p w = refl

eight : {A : Type 0} (ys : List A) (w : A) (few passes : Bool) → nat_lt (length (take 8 ys)) 8 ≡ few → take 8 (ys ++ only_if passes w) ≡ take 8 ys ++ only_if (few && passes) w
eight {A} ys w true true e = short 8 ys w (ltb-true _ _ e)
eight {A} ys w false true e = long 8 ys w (ltb-false _ _ e) ∙ sym (append-nil (take 8 ys))
eight {A} ys w true false e = ap (take 8) (append-nil ys) ∙ sym (append-nil (take 8 ys))
eight {A} ys w false false e = ap (take 8) (append-nil ys) ∙ sym (append-nil (take 8 ys))

-- one more
one_shown : {A : Type 0} (p : A → Bool) (xs : List A) (w : A) (shown : ℕ) → shown ≡ length (take 8 (filter p xs)) →
    take 8 (filter p (xs ++ w ∷ [])) ≡ take 8 (filter p xs) ++ only_if (nat_lt shown 8 && p w) w
one_shown {A} p xs w shown is =
    ap (take 8) (filter-append p xs (w ∷ []) ∙ ap (λ more. filter p xs ++ more) (one_passes p w))
    ∙ (eight (filter p xs) w (nat_lt (length (take 8 (filter p xs))) 8) (p w) refl
    ∙ ap (λ n. take 8 (filter p xs) ++ only_if (nat_lt n 8 && p w) w) (sym is))

text_if : {A : Type 0} (text : A → List ℕ) (test : Bool) (w : A) → flat_map text (only_if test w) ≡ (if test then text w else [])
text_if {A} text true w = append-nil (text w)
text_if {A} text false w = refl

length_if : {A : Type 0} (test : Bool) (w : A) (n : ℕ) → n + length (only_if test w) ≡ (if test then n + 1 else n)
length_if {A} true w n = refl
length_if {A} false w n = omega arith

pub more_text : {A : Type 0} (text : A → List ℕ) (p : A → Bool) (xs : List A) (w : A) (shown : ℕ) → shown ≡ length (take 8 (filter p xs)) →
    flat_map text (take 8 (filter p (xs ++ w ∷ []))) ≡ flat_map text (take 8 (filter p xs)) ++ (if nat_lt shown 8 && p w then text w else [])
more_text {A} text p xs w shown is =
    ap (flat_map text) (one_shown p xs w shown is)
    ∙ (flat_map-append text (take 8 (filter p xs)) (only_if (nat_lt shown 8 && p w) w) ∙ ap (λ t. flat_map text (take 8 (filter p xs)) ++ t) (text_if text (nat_lt shown 8 && p w) w))

pub more_shown : {A : Type 0} (p : A → Bool) (xs : List A) (w : A) (shown : ℕ) → shown ≡ length (take 8 (filter p xs)) →
    (if nat_lt shown 8 && p w then shown + 1 else shown) ≡ length (take 8 (filter p (xs ++ w ∷ [])))
more_shown {A} p xs w shown is =
    sym (ap length (one_shown p xs w shown is)
    ∙ (length-append (take 8 (filter p xs)) (only_if (nat_lt shown 8 && p w) w)
    ∙ (ap (λ n. n + length (only_if (nat_lt shown 8 && p w) w)) (sym is) ∙ length_if (nat_lt shown 8 && p w) w shown)))

pub few_shown : {A : Type 0} (p : A → Bool) (xs : List A) → length (take 8 (filter p xs)) ≤ 8
few_shown {A} p xs = omega (arith, length-take 8 (filter p xs))
