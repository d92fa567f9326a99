-- Merged words make the overlay.
use Rattle.std.proofs.Common.{◌≡◌, ℕ, ◌+◌, ◌*◌, ◌/◌, ◌%◌, ◌<◌, ◌≤◌, Bool, true, false, cond, ltb, ◌||◌, List, [], ◌∷◌, length, get_or, refl, arith, ap, sym, ◌∙◌, subst, length-set}
use Rattle.std.specs.Prelude.{All, unwrap_or, slice_index, IsPermutation}
use Rattle.std.specs.List.{list_any}
use Rattle.std.specs.FinMap.{get}
use Rattle.std.proofs.lemmas.Bool.{ltb-true, ltb-false, false_from_ne_true, eq-eqb, ne_eqb}
use Rattle.std.proofs.lemmas.List.{ext_get_or}
use Rattle.std.proofs.lemmas.List.Elements.{All-tail, All-head, Contains-get_or}
use Rattle.std.proofs.lemmas.List.Sorted.{All-permutation, list_any-IsPermutation}
use Rattle.tape_image.specs.Memory.{half, byte_of, top_of}
use Rattle.tape_image.specs.Word.{WordValue, gives}
use Rattle.tape_image.specs.Image.{Image}
use Rattle.tape_image.specs.Plan.{PlanValue, IsPlan}
use Rattle.tape_image.specs.Overlay.{IsOverlay, merge_at, merge_all, MakesOverlay}
use Rattle.tape_image.proofs.Stores.{byte_of-with_word, with_word}
use Rattle.tape_image.proofs.Given.{gives-address, image_at_word, given_byte-none}

-- one word keeps the size
length-merge_at : (memory : List ℕ) (w : WordValue) → length (merge_at memory w) ≡ length memory
length-merge_at memory w = elim (ltb (w.address / 2) (length memory)) as (λ t. length (cond t (with_word memory w) memory) ≡ length memory) [ true ↦ length-set memory _ _ | false ↦ refl ]

-- and changes the bytes that it gives, to its own
byte_of-merge_at : (memory : List ℕ) (w : WordValue) (b : ℕ) → b < top_of memory → byte_of (merge_at memory w) b ≡ cond (gives w b) (half b w.value) (byte_of memory b)
byte_of-merge_at memory w b l =
    elim (ltb (w.address / 2) (length memory)) as (λ t. ltb (w.address / 2) (length memory) ≡ t → byte_of (cond t (with_word memory w) memory) b ≡ cond (gives w b) (half b w.value) (byte_of memory b)) [
      | true ↦ λ e. byte_of-with_word memory w b (ltb-true _ _ e)
      | false ↦ λ e.
          let above : length memory ≤ w.address / 2 = ltb-false _ _ e in
          let not_here : gives w b ≡ false = false_from_ne_true (gives w b) (λ g. let here : w.address / 2 ≡ b / 2 = gives-address w b g in omega arith) in
          ap (λ t. cond t (half b w.value) (byte_of memory b)) (sym not_here)
    ] refl

-- words keep the size
length-merge_all : (memory : List ℕ) (words : List WordValue) → length (merge_all memory words) ≡ length memory
unfolding merge_all
length-merge_all memory [] = refl
length-merge_all memory (w ∷ words) = length-merge_all (merge_at memory w) words ∙ length-merge_at memory w

later_over_first : (first later : Bool) (own v old : ℕ) → (first ≡ true → own ≡ v) → cond later v (cond first own old) ≡ cond (first || later) v old
later_over_first true later own v old same = ap (λ x. cond later v x) (same refl) ∙ elim later as (λ t. cond t v v ≡ v) [ true ↦ refl | false ↦ refl ]
later_over_first false later own v old same = refl

-- if each word that gives the byte at b gives v, the words leave v there where one gives it, and else the byte before
byte_of-merge_all : (words : List WordValue) (memory : List ℕ) (b v : ℕ) → b < top_of memory → All (λ w. gives w b ≡ true → half b w.value ≡ v) words → byte_of (merge_all memory words) b ≡ cond (list_any (λ w. gives w b) words) v (byte_of memory b)
unfolding merge_all
byte_of-merge_all [] memory b v l all = refl
byte_of-merge_all (w ∷ words) memory b v l all =
    byte_of-merge_all words (merge_at memory w) b v (rw (length-merge_at memory w) l) (All-tail (λ w. gives w b ≡ true → half b w.value ≡ v) w words all)
    ∙ ap (cond (list_any (λ w. gives w b) words) v) (byte_of-merge_at memory w b l)
    ∙ later_over_first (gives w b) (list_any (λ w. gives w b) words) (half b w.value) v (byte_of memory b) (All-head (λ w. gives w b ≡ true → half b w.value ≡ v) w words all)

-- the words of a plan, merged in any order, leave an overlay
IsOverlay-merge_all : (p : PlanValue) → IsPlan p → (memory : List ℕ) (ordered : List WordValue) → IsPermutation p.words ordered → IsOverlay memory p.image (merge_all memory ordered)
IsOverlay-merge_all p is memory ordered same = record {
  size = length-merge_all memory ordered;
  bytes = λ b l.
      let v : ℕ = unwrap_or (get p.image b) (byte_of memory b) in
      let own : All (λ w. gives w b ≡ true → half b w.value ≡ v) p.words =
      λ k d m g. sym (ap (λ o. unwrap_or o (byte_of memory b)) (image_at_word p (get_or p.words k d) b is (Contains-get_or p.words k d m) g)) in
      byte_of-merge_all ordered memory b v l (All-permutation (λ w. gives w b ≡ true → half b w.value ≡ v) p.words ordered same own)
      ∙ ap (λ t. cond t v (byte_of memory b)) (sym (list_any-IsPermutation (λ w. gives w b) p.words ordered same))
      ∙ elim (list_any (λ w. gives w b) p.words) as (λ t. list_any (λ w. gives w b) p.words ≡ t → cond t v (byte_of memory b) ≡ v) [
        | true ↦ λ e. refl
        | false ↦ λ e. sym (ap (λ o. unwrap_or o (byte_of memory b)) (is.image_of_words b ∙ given_byte-none p.words b e))
      ] refl;
}

-- a word's two bytes, by their addresses
even_half : (i word : ℕ) → half (2 * i) word ≡ word % 256
even_half i word = ap (λ t. cond t (word % 256) (word / 256)) (eq-eqb (2 * i % 2) 0 (omega arith))

odd_half : (i word : ℕ) → half (2 * i + 1) word ≡ word / 256
odd_half i word = ap (λ t. cond t (word % 256) (word / 256)) (ne_eqb ((2 * i + 1) % 2) 0 (λ e. omega arith))

low_byte_of : (memory : List ℕ) (i : ℕ) → byte_of memory (2 * i) ≡ slice_index memory i % 256
low_byte_of memory i = even_half i (slice_index memory (2 * i / 2)) ∙ (let here : 2 * i / 2 ≡ i = omega arith in ap (λ k. slice_index memory k % 256) here)

high_byte_of : (memory : List ℕ) (i : ℕ) → byte_of memory (2 * i + 1) ≡ slice_index memory i / 256
high_byte_of memory i = odd_half i (slice_index memory ((2 * i + 1) / 2)) ∙ (let here : (2 * i + 1) / 2 ≡ i = omega arith in ap (λ k. slice_index memory k / 256) here)

-- two memories with the same bytes have the same words
same_bytes : (xs ys : List ℕ) → length xs ≡ length ys → ((b : ℕ) → b < top_of xs → byte_of xs b ≡ byte_of ys b) → xs ≡ ys
same_bytes xs ys size same =
    ext_get_or 0 xs ys size (λ i l.
    let low : slice_index xs i % 256 ≡ slice_index ys i % 256 = sym (low_byte_of xs i) ∙ same (2 * i) (omega arith) ∙ low_byte_of ys i in
    let high : slice_index xs i / 256 ≡ slice_index ys i / 256 = sym (high_byte_of xs i) ∙ same (2 * i + 1) (omega arith) ∙ high_byte_of ys i in
    omega arith)

-- a memory has one overlay
pub one_overlay : (before : List ℕ) (image : Image) (after other : List ℕ) → IsOverlay before image after → IsOverlay before image other → after ≡ other
one_overlay before image after other a o =
    same_bytes after other (a.size ∙ sym o.size) (λ b l. let low : b < top_of before = rw (← a.size) l in a.bytes b low ∙ sym (o.bytes b low))

-- of every plan
pub merged_words-overlay : (p : PlanValue) → IsPlan p → MakesOverlay p.image p.words
merged_words-overlay p is memory after ordered same =
    let merged : IsOverlay memory p.image (merge_all memory ordered) = IsOverlay-merge_all p is memory ordered same in
    ((λ a. one_overlay memory p.image after (merge_all memory ordered) a merged), (λ e. subst (IsOverlay memory p.image) (sym e) merged))
