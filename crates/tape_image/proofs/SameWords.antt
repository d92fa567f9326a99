-- Words that rise and give the same bytes are the same words.
use Rattle.std.proofs.Common.{◌≡◌, ℕ, suc, ◌+◌, ◌/◌, ◌%◌, ◌<◌, Bool, true, false, cond, eqb, ◌&&◌, List, [], ◌∷◌, get_or, Option, Some, None, refl, arith, ap, sym, ◌∙◌, subst, inl, inr}
use Rattle.std.specs.Prelude.{All, AllPairs}
use Rattle.std.proofs.lemmas.Bool.{cases_order, cases_eq, eq-eqb, ne_eqb}
use Rattle.std.proofs.lemmas.Bool.Decides.{nat_tests}
use Rattle.std.proofs.lemmas.List.Elements.{All-head, All-tail}
use Rattle.tape_image.specs.Memory.{half}
use Rattle.tape_image.specs.Word.{WordValue, IsWord, IsMask, covers}
use Rattle.tape_image.specs.Plan.{PlanValue, IsPlan, AreWordsOf, AreTheWordsOf, given_byte}
use Rattle.tape_image.proofs.Given.{Rises}

-- words above the address of b give no byte there
given_byte-above : (words : List WordValue) (b : ℕ) → All (λ w. b / 2 < w.address / 2) words → given_byte words b ≡ None
given_byte-above [] b above = refl
given_byte-above (w ∷ words) b above =
    let apart : eqb (w.address / 2) (b / 2) ≡ false = ne_eqb (w.address / 2) (b / 2) (λ e. omega (arith, All-head (λ v. b / 2 < v.address / 2) w words above)) in
    ap (λ t. cond (t && covers b w.mask) (Some (half b w.value)) (given_byte words b)) apart
    ∙ given_byte-above words b (All-tail (λ v. b / 2 < v.address / 2) w words above)

-- the byte that a word has for an address in it
abbrev own_byte : WordValue → ℕ → Option ℕ
own_byte w b = cond (covers b w.mask) (Some (half b w.value)) None

-- the words behind the first lie above it
later_above : (w : WordValue) (words : List WordValue) (b : ℕ) → All IsWord (w ∷ words) → AllPairs Rises (w ∷ words) → w.address / 2 ≡ b / 2 → All (λ v. b / 2 < v.address / 2) words
later_above w words b each rising here k d l =
    let rise : w.address < (get_or words k d).address = rising 0 (suc k) d (omega arith) (omega arith) in
    let even : w.address % 2 ≡ 0 = (each 0 d (omega arith)).even in
    let other : (get_or words k d).address % 2 ≡ 0 = (each (suc k) d (omega arith)).even in
    omega arith

-- the first of words that rise alone gives the bytes at its address
given_byte-first : (w : WordValue) (words : List WordValue) (b : ℕ) → All IsWord (w ∷ words) → AllPairs Rises (w ∷ words) → w.address / 2 ≡ b / 2 → given_byte (w ∷ words) b ≡ own_byte w b
given_byte-first w words b each rising here =
    ap (λ t. cond (t && covers b w.mask) (Some (half b w.value)) (given_byte words b)) (eq-eqb (w.address / 2) (b / 2) here)
    ∙ ap (λ o. cond (covers b w.mask) (Some (half b w.value)) o) (given_byte-above words b (later_above w words b each rising here))

-- and elsewhere the others give them
given_byte-later : (w : WordValue) (words : List WordValue) (b : ℕ) → (w.address / 2 ≡ b / 2 → ⊥) → given_byte (w ∷ words) b ≡ given_byte words b
given_byte-later w words b apart = ap (λ t. cond (t && covers b w.mask) (Some (half b w.value)) (given_byte words b)) (ne_eqb (w.address / 2) (b / 2) apart)

own_byte-even : (w : WordValue) (b : ℕ) → b % 2 ≡ 0 → own_byte w b ≡ own_byte w 0
own_byte-even w b e = ap (λ t. cond (eqb (cond t (w.mask % 256) (w.mask / 256)) 255) (Some (cond t (w.value % 256) (w.value / 256))) None) (eq-eqb (b % 2) 0 e)

own_byte-odd : (w : WordValue) (b : ℕ) → b % 2 ≡ 1 → own_byte w b ≡ own_byte w 1
own_byte-odd w b e = ap (λ t. cond (eqb (cond t (w.mask % 256) (w.mask / 256)) 255) (Some (cond t (w.value % 256) (w.value / 256))) None) (ne_eqb (b % 2) 0 (λ f. omega arith))

-- a word has one of its two bytes
not_covered : (t : Bool) (byte : ℕ) → cond t (Some byte) None ≡ None → t ≡ false
not_covered true byte e = absurd (cc e)
not_covered false byte e = refl

some_byte : (m : ℕ) → IsMask m → covers 0 m ≡ false → covers 1 m ≡ false → ⊥
some_byte m p e f = grind (arith, nat_tests)

has_byte : (w : WordValue) → IsWord w → own_byte w 0 ≡ None → own_byte w 1 ≡ None → ⊥
has_byte w p e f = some_byte w.mask p.inside.one_mask (not_covered (covers 0 w.mask) (half 0 w.value) e) (not_covered (covers 1 w.mask) (half 1 w.value) f)

same_half : (p q : Bool) (u v : ℕ) → cond p (Some u) None ≡ cond q (Some v) None → (p ≡ false → u ≡ 0) → (q ≡ false → v ≡ 0) → (p ≡ q) × (u ≡ v)
same_half true true u v e f g = (refl, cc)
same_half true false u v e f g = absurd (cc e)
same_half false true u v e f g = absurd (cc e)
same_half false false u v e f g = (refl, f refl ∙ sym (g refl))

same_mask : (m n : ℕ) → IsMask m → IsMask n → covers 0 m ≡ covers 0 n → covers 1 m ≡ covers 1 n → m ≡ n
same_mask m n p q e f = grind (arith, nat_tests)

same_value : (m n : ℕ) → m % 256 ≡ n % 256 → m / 256 ≡ n / 256 → m ≡ n
same_value m n e f = omega arith

-- two words with the same bytes at one address are one
same_word : (v w : WordValue) → IsWord v → IsWord w → v.address ≡ w.address → own_byte v 0 ≡ own_byte w 0 → own_byte v 1 ≡ own_byte w 1 → v ≡ w
same_word v w p q a e f =
    let low = same_half (covers 0 v.mask) (covers 0 w.mask) (half 0 v.value) (half 0 w.value) e p.inside.low q.inside.low in
    let high = same_half (covers 1 v.mask) (covers 1 w.mask) (half 1 v.value) (half 1 w.value) f p.inside.high q.inside.high in
    let m : v.mask ≡ w.mask = same_mask v.mask w.mask p.inside.one_mask q.inside.one_mask low.0 high.0 in
    let x : v.value ≡ w.value = same_value v.value w.value low.1 high.1 in
    λ i. record { address = a i; mask = m i; value = x i }

-- words of which none lies at the first one's address lack its bytes
missing : (w : WordValue) (words others : List WordValue) → All IsWord (w ∷ words) → AllPairs Rises (w ∷ words) → ((b : ℕ) → given_byte (w ∷ words) b ≡ given_byte others b) → ((b : ℕ) → w.address / 2 ≡ b / 2 → given_byte others b ≡ None) → ⊥
missing w words others each rising same none =
    let is : IsWord w = All-head IsWord w words each in
    let even : w.address % 2 ≡ 0 = is.even in
    let here : w.address / 2 ≡ w.address / 2 = refl in
    let next : w.address / 2 ≡ (w.address + 1) / 2 = omega arith in
    has_byte w is
    (sym (own_byte-even w w.address even) ∙ sym (given_byte-first w words w.address each rising here) ∙ same w.address ∙ none w.address here)
    (sym (own_byte-odd w (w.address + 1) (omega arith)) ∙ sym (given_byte-first w words (w.address + 1) each rising next) ∙ same (w.address + 1) ∙ none (w.address + 1) next)

-- words that all lie above an address lack its bytes
above_first : (v w : WordValue) (words : List WordValue) (b : ℕ) → v.address % 2 ≡ 0 → v.address < w.address → All IsWord (w ∷ words) → AllPairs Rises (w ∷ words) → v.address / 2 ≡ b / 2 → given_byte (w ∷ words) b ≡ None
above_first v w words b even less each rising here =
    let other : w.address % 2 ≡ 0 = (All-head IsWord w words each).even in
    let above : b / 2 < w.address / 2 = omega arith in
    given_byte-later w words b (λ e. omega arith)
    ∙ given_byte-above words b (λ k d l. let rise : w.address < (get_or words k d).address = rising 0 (suc k) d (omega arith) (omega arith) in omega arith)

-- the first of two lists with the same bytes have the same bytes
same_first : (x y : WordValue) (xs ys : List WordValue) (b : ℕ) → All IsWord (x ∷ xs) → AllPairs Rises (x ∷ xs) → All IsWord (y ∷ ys) → AllPairs Rises (y ∷ ys) → given_byte (x ∷ xs) b ≡ given_byte (y ∷ ys) b → x.address / 2 ≡ b / 2 → y.address / 2 ≡ b / 2 → own_byte x b ≡ own_byte y b
same_first x y xs ys b xe xr ye yr same here there = sym (given_byte-first x xs b xe xr here) ∙ same ∙ given_byte-first y ys b ye yr there

-- and so have the others
same_later : (x y : WordValue) (xs ys : List WordValue) (b : ℕ) → All IsWord (x ∷ xs) → AllPairs Rises (x ∷ xs) → All IsWord (y ∷ ys) → AllPairs Rises (y ∷ ys) → given_byte (x ∷ xs) b ≡ given_byte (y ∷ ys) b → x.address ≡ y.address → given_byte xs b ≡ given_byte ys b
same_later x y xs ys b xe xr ye yr same a =
    elim (cases_eq (x.address / 2) (b / 2)) [
      | inl here ↦ given_byte-above xs b (later_above x xs b xe xr here) ∙ sym (given_byte-above ys b (later_above y ys b ye yr (omega arith)))
      | inr apart ↦ sym (given_byte-later x xs b apart) ∙ same ∙ given_byte-later y ys b (λ e. apart (omega arith))
    ]

same_firsts : (x y : WordValue) (xs ys : List WordValue) → All IsWord (x ∷ xs) → AllPairs Rises (x ∷ xs) → All IsWord (y ∷ ys) → AllPairs Rises (y ∷ ys) → ((b : ℕ) → given_byte (x ∷ xs) b ≡ given_byte (y ∷ ys) b) → x.address ≡ y.address → x ≡ y
same_firsts x y xs ys xe xr ye yr same a =
    let is : IsWord x = All-head IsWord x xs xe in
    let even : x.address % 2 ≡ 0 = is.even in
    same_word x y is (All-head IsWord y ys ye) a
    (sym (own_byte-even x x.address even) ∙ same_first x y xs ys x.address xe xr ye yr (same x.address) refl (omega arith) ∙ own_byte-even y x.address even)
    (sym (own_byte-odd x (x.address + 1) (omega arith)) ∙ same_first x y xs ys (x.address + 1) xe xr ye yr (same (x.address + 1)) (omega arith) (omega arith) ∙ own_byte-odd y (x.address + 1) (omega arith))

-- two lists of words that rise and give the same bytes are one
pub same_words : (xs ys : List WordValue) → All IsWord xs → AllPairs Rises xs → All IsWord ys → AllPairs Rises ys → ((b : ℕ) → given_byte xs b ≡ given_byte ys b) → xs ≡ ys
same_words [] [] xe xr ye yr same = refl
same_words [] (y ∷ ys) xe xr ye yr same = absurd (missing y ys [] ye yr (λ b. sym (same b)) (λ b here. refl))
same_words (x ∷ xs) [] xe xr ye yr same = absurd (missing x xs [] xe xr same (λ b here. refl))
same_words (x ∷ xs) (y ∷ ys) xe xr ye yr same =
    elim (cases_order x.address y.address) [
      | inl a ↦
          let first : x ≡ y = same_firsts x y xs ys xe xr ye yr same a in
          let rest : xs ≡ ys =
          same_words xs ys (All-tail IsWord x xs xe) (λ i j d p q. xr (suc i) (suc j) d (omega arith) (omega arith))
          (All-tail IsWord y ys ye) (λ i j d p q. yr (suc i) (suc j) d (omega arith) (omega arith))
          (λ b. same_later x y xs ys b xe xr ye yr (same b) a) in
          λ i. first i ∷ rest i
      | inr apart ↦ elim apart [
        | inl less ↦ absurd (missing x xs (y ∷ ys) xe xr same (λ b here. above_first x y ys b (All-head IsWord x xs xe).even less ye yr here))
        | inr more ↦ absurd (missing y ys (x ∷ xs) ye yr (λ b. sym (same b)) (λ b here. above_first y x xs b (All-head IsWord y ys ye).even more xe xr here))
      ]
    ]

-- so the words of a plan are the only ones of its image
pub plan_words : (p : PlanValue) → IsPlan p → AreTheWordsOf p.image p.words
plan_words p is others = (
  (λ are. same_words others p.words are.each are.rising is.each is.rising (λ b. are.bytes b ∙ is.image_of_words b)),
  (λ e. subst (AreWordsOf p.image) (sym e) (record { each = is.each; rising = is.rising; bytes = λ b. sym (is.image_of_words b) })),
)
