-- Words that stand in a memory, for those who follow a memory word by word.
use Rattle.std.proofs.Common.{◌≡◌, ◌≢◌, ◌⊎◌, ℕ, suc, ◌/◌, ◌%◌, ◌<◌, true, false, cond, eqb, List, [], ◌∷◌, length, get_or, Some, None, refl, arith, ap, sym, ◌∙◌, inl, inr}
use Rattle.std.specs.Prelude.{All, Contains, unwrap_or, slice_index}
use Rattle.std.specs.FinMap.{get}
use Rattle.std.proofs.lemmas.Bool.{cases_order, and_parts}
use Rattle.tape_image.specs.Memory.{half, byte_of, top_of}
use Rattle.tape_image.specs.Word.{WordValue, covers, gives, Stands}
use Rattle.tape_image.specs.Plan.{PlanValue, IsPlan, given_byte}
use Rattle.tape_image.specs.Overlay.{IsOverlay}
use Rattle.tape_image.proofs.Stores.{with_word, byte_of-with_word}
use Rattle.tape_image.proofs.Given.{gives-address, image_at_word}

-- the byte of a word that stands is the word's, where the mask has it
half-standing : (b : ℕ) (w : WordValue) (now : ℕ) → Stands w now → covers b w.mask ≡ true → half b now ≡ half b w.value
half-standing b w now s =
    elim (eqb (b % 2) 0) as (λ t. eqb (cond t (w.mask % 256) (w.mask / 256)) 255 ≡ true → cond t (now % 256) (now / 256) ≡ cond t (w.value % 256) (w.value / 256)) [ true ↦ s.low | false ↦ s.high ]

-- the byte that the words give is that of one of them
given_byte-Some : (words : List WordValue) (b byte : ℕ) → given_byte words b ≡ Some byte → (k : ℕ) × ((d : WordValue) → (k < length words) × (gives (get_or words k d) b ≡ true) × (half b (get_or words k d).value ≡ byte))
given_byte-Some [] b byte e = absurd (cc e)
given_byte-Some (w ∷ words) b byte e =
    elim (gives w b) as (λ t. gives w b ≡ t → cond t (Some (half b w.value)) (given_byte words b) ≡ Some byte → (k : ℕ) × ((d : WordValue) → (k < length (w ∷ words)) × (gives (get_or (w ∷ words) k d) b ≡ true) × (half b (get_or (w ∷ words) k d).value ≡ byte))) [
      | true ↦ λ g f. (0, λ d. (omega arith, g, cc f))
      | false ↦ λ g f. let later = given_byte-Some words b byte f in (suc later.0, λ d. let at = later.1 d in (omega (arith, at.0), at.1, at.2))
    ] refl e

-- two words of a plan have no place in common
pub places_apart : (p : PlanValue) (i j : ℕ) (d : WordValue) → IsPlan p → i < length p.words → j < length p.words → i ≢ j → (get_or p.words i d).address / 2 ≢ (get_or p.words j d).address / 2
places_apart p i j d is k l apart same =
    let even : (get_or p.words i d).address % 2 ≡ 0 = (is.each i d k).even in
    let other : (get_or p.words j d).address % 2 ≡ 0 = (is.each j d l).even in
    elim (cases_order i j) [
      | inl e ↦ apart e
      | inr r ↦ elim r [
        | inl less ↦ let rise : (get_or p.words i d).address < (get_or p.words j d).address = is.rising i j d less l in omega arith
        | inr more ↦ let fall : (get_or p.words j d).address < (get_or p.words i d).address = is.rising j i d more k in omega arith
      ]
    ]

-- a word of the plan that is merged in at its address leaves each byte as it was, or makes it the image's
pub byte_of-with_word_cases : (p : PlanValue) (memory : List ℕ) (w : WordValue) (b : ℕ) → IsPlan p → Contains p.words w → w.address / 2 < length memory
    → (byte_of (with_word memory w) b ≡ byte_of memory b) ⊎ (get p.image b ≡ Some (byte_of (with_word memory w) b))
byte_of-with_word_cases p memory w b is among l =
    elim (gives w b) as (λ t. gives w b ≡ t → byte_of (with_word memory w) b ≡ cond t (half b w.value) (byte_of memory b) → (byte_of (with_word memory w) b ≡ byte_of memory b) ⊎ (get p.image b ≡ Some (byte_of (with_word memory w) b))) [
      | true ↦ λ g e. inr (image_at_word p w b is among g ∙ ap (λ x. Some x) (sym e))
      | false ↦ λ g e. inl e
    ] refl (byte_of-with_word memory w b l)

-- where every word of the plan stands and each byte outside the image is as before, the memory is the overlay
pub IsOverlay-standing : (p : PlanValue) (before after : List ℕ) → IsPlan p → length after ≡ length before
    → All (λ w. Stands w (slice_index after (w.address / 2))) p.words
    → ((b : ℕ) → b < top_of before → get p.image b ≡ None → byte_of after b ≡ byte_of before b)
    → IsOverlay before p.image after
IsOverlay-standing p before after is size stand outside = record {
  size = size;
  bytes = λ b l. elim (get p.image b) as (λ o. get p.image b ≡ o → byte_of after b ≡ unwrap_or o (byte_of before b)) [
    | None ↦ λ e. outside b l e
    | Some byte ↦ λ e.
        let found = given_byte-Some p.words b byte (sym (is.image_of_words b) ∙ e) in
        let d : WordValue = record { address = 0; mask = 0; value = 0 } in
        let w : WordValue = get_or p.words found.0 d in
        let at = found.1 d in
        let here : w.address / 2 ≡ b / 2 = gives-address w b at.1 in
        ap (λ k. half b (slice_index after k)) (sym here)
        ∙ half-standing b w (slice_index after (w.address / 2)) (stand found.0 d at.0) (and_parts (eqb (w.address / 2) (b / 2)) (covers b w.mask) at.1).1
        ∙ at.2
  ] refl;
}
