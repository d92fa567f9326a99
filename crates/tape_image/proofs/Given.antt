-- Which byte the words of a plan give for an address.
use Rattle.std.proofs.Common.{◌≡◌, ℕ, zero, suc, ◌/◌, ◌%◌, ◌<◌, true, false, cond, eqb, ◌||◌, List, [], ◌∷◌, length, get_or, Some, None, refl, arith, ap, ◌∙◌}
use Rattle.std.specs.Prelude.{All, AllPairs, Contains}
use Rattle.std.specs.List.{list_any}
use Rattle.std.specs.FinMap.{get}
use Rattle.std.proofs.lemmas.Bool.{eqb-true, and_parts, false_from_ne_true}
use Rattle.std.proofs.lemmas.List.Elements.{All-tail}
use Rattle.tape_image.specs.Memory.{half}
use Rattle.tape_image.specs.Word.{WordValue, IsWord, covers, gives}
use Rattle.tape_image.specs.Plan.{PlanValue, IsPlan, given_byte}

-- addresses strictly rise
abbrev pub Rises : WordValue → WordValue → Type 0
Rises v w = v.address < w.address

-- a word that gives the byte at b lies where b does
pub gives-address : (w : WordValue) (b : ℕ) → gives w b ≡ true → w.address / 2 ≡ b / 2
gives-address w b e = eqb-true _ _ (and_parts (eqb (w.address / 2) (b / 2)) (covers b w.mask) e).0

-- of two words at even addresses, the first lower, at most one gives the byte
gives_apart : (v w : WordValue) (b : ℕ) → v.address % 2 ≡ 0 → w.address % 2 ≡ 0 → v.address < w.address → gives w b ≡ true → gives v b ≡ false
gives_apart v w b p q less e =
    false_from_ne_true (gives v b) (λ f.
    let here : w.address / 2 ≡ b / 2 = gives-address w b e in
    let there : v.address / 2 ≡ b / 2 = gives-address v b f in
    omega arith)

-- where the addresses rise, the byte that a word gives is the byte that all of them give
given_byte-at : (words : List WordValue) (b k : ℕ) (d : WordValue) → All IsWord words → AllPairs Rises words → k < length words → gives (get_or words k d) b ≡ true → given_byte words b ≡ Some (half b (get_or words k d).value)
given_byte-at [] b k d each rising l e = absurd (omega arith)
given_byte-at (w ∷ words) b zero d each rising l e = ap (λ t. cond t (Some (half b w.value)) (given_byte words b)) e
given_byte-at (w ∷ words) b (suc k) d each rising l e =
    let next : k < length words = omega arith in
    let first : gives w b ≡ false = gives_apart w (get_or words k d) b (each 0 d (omega arith)).even (each (suc k) d l).even (rising 0 (suc k) d (omega arith) l) e in
    ap (λ t. cond t (Some (half b w.value)) (given_byte words b)) first
    ∙ given_byte-at words b k d (All-tail IsWord w words each) (λ i j x p q. rising (suc i) (suc j) x (omega arith) (omega arith)) next e

-- where no word gives it, there is no byte
pub given_byte-none : (words : List WordValue) (b : ℕ) → list_any (λ w. gives w b) words ≡ false → given_byte words b ≡ None
given_byte-none [] b e = refl
given_byte-none (w ∷ words) b e =
    elim (gives w b) as (λ t. (t || list_any (λ w. gives w b) words) ≡ false → cond t (Some (half b w.value)) (given_byte words b) ≡ None) [
      | true ↦ λ f. absurd (cc f)
      | false ↦ λ f. given_byte-none words b f
    ] e

-- the image has the byte that a word of the plan gives
pub image_at_word : (p : PlanValue) (w : WordValue) (b : ℕ) → IsPlan p → Contains p.words w → gives w b ≡ true → get p.image b ≡ Some (half b w.value)
image_at_word p w b is (k, l, e) g =
    is.image_of_words b
    ∙ given_byte-at p.words b k w is.each is.rising l (ap (λ v. gives v b) e ∙ g)
    ∙ ap (λ (v : WordValue). Some (half b v.value)) e
