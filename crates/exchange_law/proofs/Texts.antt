-- Texts of a stub, and how many of its characters a text has.
use Rattle.std.proofs.Common.{◌≡◌, ℕ, zero, suc, ◌+◌, ◌-◌, ◌*◌, ◌/◌, ◌%◌, ◌<◌, ◌≤◌, ◌⊎◌, Bool, true, false, List, [], ◌∷◌, ◌++◌, length, Option, Some, None, unwrap_or, inl, inr, refl, arith, ap, sym, subst, ◌∙◌}
use Rattle.std.proofs.lemmas.Bool.Decides.{nat_tests}
use Rattle.std.specs.Prelude.{◌==◌, if◌then◌else◌, IsSome, IfSome, slice_index}
use Rattle.std.specs.FinMap.{get}
use Rattle.std.specs.List.{remove}
use Rattle.tape_image.specs.Image.{Image}
use Rattle.tape_image.specs.Memory.{byte_of}
use Rattle.tape_image.specs.Plan.{PlanValue, IsPlan}
use Rattle.odt_machine.specs.Machine.{IsWide}
use Rattle.exchange_core.specs.declared.chunk.Chunk.{Chunk}
use Rattle.exchange_core.specs.Chunk.{answer_for, is_nibble, key_for, keys_from, nibble_of, told}
use Rattle.exchange_law.specs.Station.{Each, IsHaltCharacter, IsHaltText, answer_from}

-- a character of a stub
abbrev pub IsNibble : ℕ → Type 0
IsNibble c = is_nibble c ≡ true

-- ---- each character

pub each_append : (P : ℕ → Type 0) (xs ys : List ℕ) → Each P xs → Each P ys → Each P (xs ++ ys)
each_append P [] ys h k = k
each_append P (c ∷ xs) ys h k = (h.0, each_append P xs ys h.1 k)

pub each_removed : (P : ℕ → Type 0) (xs : List ℕ) (k : ℕ) → Each P xs → Each P (remove xs k)
each_removed P [] zero h = tt
each_removed P [] (suc k) h = tt
each_removed P (c ∷ xs) zero h = h.1
each_removed P (c ∷ xs) (suc k) h = (h.0, each_removed P xs k h.1)

pub each_weaker : (P Q : ℕ → Type 0) → ((c : ℕ) → P c → Q c) → (xs : List ℕ) → Each P xs → Each Q xs
each_weaker P Q f [] h = tt
each_weaker P Q f (c ∷ xs) h = (f c h.0, each_weaker P Q f xs h.1)

-- ---- nibbles

nibble_small : (byte place : ℕ) → byte < 256 → nibble_of byte place ≤ 15
nibble_small byte place small = here (place % 2 == 0)
  where
    here : (test : Bool) → (if test then byte / 16 else byte % 16) ≤ 15
    here true = omega (arith, small)
    here false = omega arith

is_one : (c : ℕ) → 96 ≤ c → c ≤ 111 → is_nibble c ≡ true
is_one c low high = grind (arith, nat_tests)

pub key_is_one : (byte place : ℕ) → byte < 256 → IsNibble (key_for byte place)
key_is_one byte place small = let n = nibble_small byte place small in is_one (key_for byte place) (omega arith) (omega (arith, n))

pub answer_is_one : (byte place : ℕ) → byte < 256 → IsNibble (answer_for byte place)
answer_is_one byte place small = let n = nibble_small byte place small in is_one (answer_for byte place) (omega (arith, n)) (omega arith)

-- ---- what is sent

pub told_small : (plan : PlanValue) → IsPlan plan → (a : ℕ) → told plan.image a < 256
told_small plan is a = here (get plan.image a) (is.bytes a)
  where
    here : (o : Option ℕ) → IfSome o (λ byte. byte < 256) → unwrap_or o 0 < 256
    here None h = omega arith
    here (Some byte) h = h

pub keys_are_nibbles : (image : Image) (chunk : Chunk) → ((a : ℕ) → told image a < 256) → (place count : ℕ) → Each IsNibble (keys_from image chunk place count)
keys_are_nibbles image chunk small place zero = tt
keys_are_nibbles image chunk small place (suc count) =
    (key_is_one (told image (chunk.address + place / 2)) place (small (chunk.address + place / 2)), keys_are_nibbles image chunk small (place + 1) count)

-- ---- what is answered

pub byte_small : (memory : List ℕ) → IsWide memory → (b : ℕ) → byte_of memory b < 256
byte_small memory wide b = here (b % 2 == 0)
  where
    here : (test : Bool) → (if test then slice_index memory (b / 2) % 256 else slice_index memory (b / 2) / 256) < 256
    here true = omega arith
    here false = let w = wide (b / 2) in omega (arith, w)

-- how many characters of a stub a text has
abbrev pub one_if : Bool → ℕ
one_if true = 1
one_if false = 0

abbrev pub nibbles : List ℕ → ℕ
nibbles [] = 0
nibbles (c ∷ text) = one_if (is_nibble c) + nibbles text

pub nibbles_removed : (xs : List ℕ) (k : ℕ) → nibbles (remove xs k) ≤ nibbles xs
nibbles_removed [] zero = omega arith
nibbles_removed [] (suc k) = omega arith
nibbles_removed (c ∷ xs) zero = omega arith
nibbles_removed (c ∷ xs) (suc k) = let less = nibbles_removed xs k in omega (arith, less)

pub nibbles_append : (xs ys : List ℕ) → nibbles (xs ++ ys) ≡ nibbles xs + nibbles ys
nibbles_append [] ys = none (nibbles ys)
  where
    none : (n : ℕ) → n ≡ 0 + n
    none n = omega arith
nibbles_append (c ∷ xs) ys = ap (λ n. one_if (is_nibble c) + n) (nibbles_append xs ys) ∙ again (one_if (is_nibble c)) (nibbles xs) (nibbles ys)
  where
    again : (a b c : ℕ) → a + (b + c) ≡ a + b + c
    again a b c = omega arith

-- what ODT prints has none
halt_is_none : (c : ℕ) → IsHaltCharacter c → is_nibble c ≡ false
halt_is_none c (inl digit) = grind (arith, nat_tests)
halt_is_none c (inr (inl is)) = rw is refl
halt_is_none c (inr (inr (inl is))) = rw is refl
halt_is_none c (inr (inr (inr is))) = rw is refl

pub halt_has_none : (text : List ℕ) → IsHaltText text → nibbles text ≡ 0
halt_has_none [] h = refl
halt_has_none (c ∷ text) h = ap (λ b. one_if b + nibbles text) (halt_is_none c h.0) ∙ (nothing_more (nibbles text) ∙ halt_has_none text h.1)
  where
    nothing_more : (n : ℕ) → 0 + n ≡ n
    nothing_more n = omega arith

-- ---- an answer and the text behind it

-- behind the answer of the last byte ODT may print something, behind another nothing comes
abbrev pub TextFits : List ℕ → List ℕ → Type 0
TextFits [] text = IsHaltText text
TextFits (stretch ∷ stretches) text = text ≡ []

pub fits_none : (left : List ℕ) (text : List ℕ) → text ≡ [] → TextFits left text
fits_none [] text none = subst IsHaltText (sym none) tt
fits_none (a ∷ left) text none = none

pub fits_some : (left : List ℕ) (a : ℕ) (more : List ℕ) (text : List ℕ) → left ≡ a ∷ more → TextFits left text → text ≡ []
fits_some [] a more text is fits = absurd (cc)
fits_some (one ∷ left) a more text is fits = fits

pub fitting_has_none : (stretches : List ℕ) (text : List ℕ) → TextFits stretches text → nibbles text ≡ 0
fitting_has_none [] text h = halt_has_none text h
fitting_has_none (stretch ∷ stretches) text h = ap nibbles h

fits_removed : (stretches : List ℕ) (text : List ℕ) (k : ℕ) → k < length text → TextFits stretches text → TextFits stretches (remove text k)
fits_removed [] text k below h = each_removed IsHaltCharacter text k h
fits_removed (stretch ∷ stretches) text k below h = absurd (omega (arith, below, ap length h))

pub answer_more : (memory : List ℕ) (address place left : ℕ) → answer_from memory address place (suc left) ≡ answer_for (byte_of memory (address + place / 2)) place ∷ answer_from memory address (place + 1) left
unfolding answer_from
answer_more memory address place left = refl

-- where a character of it is lost, it was one of the answer, and then too few are left; or one of the text
pub answer_loses : (memory : List ℕ) → IsWide memory → (address place left : ℕ) (stretches : List ℕ) (text : List ℕ) (k : ℕ) → TextFits stretches text → k < length (answer_from memory address place left ++ text) →
    (nibbles (remove (answer_from memory address place left ++ text) k) < left)
    ⊎ ((less : List ℕ) × TextFits stretches less × (remove (answer_from memory address place left ++ text) k ≡ answer_from memory address place left ++ less))
unfolding answer_from
answer_loses memory wide address place zero stretches text k fits below = inr (remove text k, fits_removed stretches text k below fits, refl)
answer_loses memory wide address place (suc left) stretches text zero fits below = inl (here left (answer_has memory wide address (place + 1) left stretches text fits))
  where
    here : (left : ℕ) → nibbles (answer_from memory address (place + 1) left ++ text) ≡ left → nibbles (answer_from memory address (place + 1) left ++ text) < suc left
    here left e = omega (arith, e)

    answer_has : (memory : List ℕ) → IsWide memory → (address place left : ℕ) (stretches : List ℕ) (text : List ℕ) → TextFits stretches text → nibbles (answer_from memory address place left ++ text) ≡ left
    answer_has memory wide address place zero stretches text fits = fitting_has_none stretches text fits
    answer_has memory wide address place (suc left) stretches text fits =
        ap (λ b. one_if b + nibbles (answer_from memory address (place + 1) left ++ text)) (answer_is_one (byte_of memory (address + place / 2)) place (byte_small memory wide (address + place / 2)))
        ∙ (ap (λ n. 1 + n) (answer_has memory wide address (place + 1) left stretches text fits) ∙ omega arith)
answer_loses memory wide address place (suc left) stretches text (suc k) fits below =
    elim (answer_loses memory wide address (place + 1) left stretches text k fits (omega (arith, below))) [
      | inl few ↦ inl (more (is_nibble (answer_for (byte_of memory (address + place / 2)) place)) (nibbles (remove (answer_from memory address (place + 1) left ++ text) k)) left few)
      | inr (less, fits, is) ↦ inr (less, fits, ap (λ rest. answer_for (byte_of memory (address + place / 2)) place ∷ rest) is)
    ]
  where
    more : (b : Bool) (n left : ℕ) → n < left → one_if b + n < suc left
    more true n left few = omega (arith, few)
    more false n left few = omega (arith, few)

pub answer_none : (memory : List ℕ) (address place : ℕ) → answer_from memory address place 0 ≡ []
unfolding answer_from
answer_none memory address place = refl

-- two characters more: those of the next byte
pub answer_grows : (memory : List ℕ) (address place n j : ℕ) → place + n ≡ 2 * j →
    answer_from memory address place (n + 2) ≡ answer_from memory address place n ++ (answer_for (byte_of memory (address + j)) 0 ∷ answer_for (byte_of memory (address + j)) 1 ∷ [])
unfolding answer_from
answer_grows memory address place zero j is =
    ap (λ k. answer_from memory address place k) (zero_two tt)
    ∙ (ap (λ k. answer_for (byte_of memory (address + k)) place ∷ answer_for (byte_of memory (address + (place + 1) / 2)) (place + 1) ∷ []) (half place j is)
    ∙ (ap (λ k. answer_for (byte_of memory (address + j)) place ∷ answer_for (byte_of memory (address + k)) (place + 1) ∷ []) (half_more place j is)
    ∙ (ap (λ (p : ℕ). answer_for (byte_of memory (address + j)) place ∷ (111 - (if p == 0 then byte_of memory (address + j) / 16 else byte_of memory (address + j) % 16)) ∷ []) (odd place j is)
    ∙ ap (λ (p : ℕ). (111 - (if p == 0 then byte_of memory (address + j) / 16 else byte_of memory (address + j) % 16)) ∷ answer_for (byte_of memory (address + j)) 1 ∷ []) (even place j is))))
  where
    zero_two : Unit {0} → 0 + 2 ≡ 2
    zero_two u = omega arith

    half : (p j : ℕ) → p + 0 ≡ 2 * j → p / 2 ≡ j
    half p j is = omega (arith, is)

    half_more : (p j : ℕ) → p + 0 ≡ 2 * j → (p + 1) / 2 ≡ j
    half_more p j is = omega (arith, is)

    even : (p j : ℕ) → p + 0 ≡ 2 * j → p % 2 ≡ 0
    even p j is = omega (arith, is)

    odd : (p j : ℕ) → p + 0 ≡ 2 * j → (p + 1) % 2 ≡ 1
    odd p j is = omega (arith, is)
answer_grows memory address place (suc n) j is =
    ap (λ k. answer_from memory address place k) (one n) ∙ ap (λ list. answer_for (byte_of memory (address + place / 2)) place ∷ list) (answer_grows memory address (place + 1) n j (next place n j is))
  where
    one : (n : ℕ) → suc n + 2 ≡ suc (n + 2)
    one n = omega arith

    next : (p n j : ℕ) → p + suc n ≡ 2 * j → p + 1 + n ≡ 2 * j
    next p n j is = omega (arith, is)

-- an answer of bytes that did not change
pub answer_same : (before now : List ℕ) (address place n j : ℕ) → place + n ≤ 2 * j → ((i : ℕ) → i < j → byte_of now (address + i) ≡ byte_of before (address + i)) →
    answer_from now address place n ≡ answer_from before address place n
unfolding answer_from
answer_same before now address place zero j le same = refl
answer_same before now address place (suc n) j le same =
    ap (λ b. answer_for b place ∷ answer_from now address (place + 1) n) (same (place / 2) (inside place n j le))
    ∙ ap (λ list. answer_for (byte_of before (address + place / 2)) place ∷ list) (answer_same before now address (place + 1) n j (less place n j le) same)
  where
    inside : (p n j : ℕ) → p + suc n ≤ 2 * j → p / 2 < j
    inside p n j le = omega (arith, le)

    less : (p n j : ℕ) → p + suc n ≤ 2 * j → p + 1 + n ≤ 2 * j
    less p n j le = omega (arith, le)

-- ---- equal answers are of equal bytes

two : (j : ℕ) → ((2 * j) / 2 ≡ j) × ((2 * j) % 2 ≡ 0) × ((2 * j + 1) / 2 ≡ j) × ((2 * j + 1) % 2 ≡ 1)
two j = (omega arith, omega arith, omega arith, omega arith)

nibbles_make : (x y : ℕ) → x < 256 → y < 256 → 111 - x / 16 ≡ 111 - y / 16 → 111 - x % 16 ≡ 111 - y % 16 → x ≡ y
nibbles_make x y one other high low = omega (arith, one, other, high, low)

high_is : (byte place : ℕ) → place % 2 ≡ 0 → answer_for byte place ≡ 111 - byte / 16
high_is byte place even = ap (λ (n : ℕ). 111 - (if n == 0 then byte / 16 else byte % 16)) even

low_is : (byte place : ℕ) → place % 2 ≡ 1 → answer_for byte place ≡ 111 - byte % 16
low_is byte place odd = ap (λ (n : ℕ). 111 - (if n == 0 then byte / 16 else byte % 16)) odd

pub same_bytes : (x y j : ℕ) → x < 256 → y < 256 → answer_for x (2 * j) ≡ answer_for y (2 * j) → answer_for x (2 * j + 1) ≡ answer_for y (2 * j + 1) → x ≡ y
same_bytes x y j one other high low =
    let t = two j in
    nibbles_make x y one other
    (sym (high_is x (2 * j) t.1) ∙ (high ∙ high_is y (2 * j) t.1))
    (sym (low_is x (2 * j + 1) t.3) ∙ (low ∙ low_is y (2 * j + 1) t.3))

pub half_of_even : (j : ℕ) → (2 * j) / 2 ≡ j
half_of_even j = omega arith

pub half_of_odd : (j : ℕ) → (2 * j + 1) / 2 ≡ j
half_of_odd j = omega arith

pub some_is : (o : Option ℕ) (byte : ℕ) → IsSome o → unwrap_or o 0 ≡ byte → o ≡ Some byte
some_is None byte h e = absurd (cc h)
some_is (Some b) byte h e = ap Some e
