-- The image that answers as the blocks do.
use Rattle.std.proofs.Common.{◌≡◌, ℕ, zero, suc, ◌<◌, ◌≤◌, true, false, cond, eqb, ltb, List, [], Option, Some, None, refl, arith, ap, sym, ◌∙◌, inl, inr}
use Rattle.std.specs.Prelude.{All, IfSome}
use Rattle.std.specs.Ordering.{nat_cmp, eq_by_cmp}
use Rattle.std.specs.Cmp.{nat_cmp_total}
use Rattle.std.specs.FinMap.{get, empty, get-insert, get-empty, same_map, nat_cmp-IsAntisymmetric}
use Rattle.std.proofs.lemmas.Bool.{cases_order, eq-eqb, ne_eqb, lt-ltb, le-ltb, ltb-false}
use Rattle.std.proofs.lemmas.Bool.Decides.{nat_tests}
use Rattle.tape_image.specs.Image.{Image, IsImageOf, with_byte, image_below, image_of, byte_at}
use Rattle.tape_values.specs.Block.{BlockValue, IsBlock, top}
use Rattle.tape_image.proofs.Blocks.{byte_at-within}

tied : (q a : ℕ) → eq_by_cmp nat_cmp q a ≡ eqb q a
tied q a = grind (arith, nat_tests)

get-with_byte : (image : Image) (a : ℕ) (byte : Option ℕ) (q : ℕ) → get image a ≡ None → get (with_byte image a byte) q ≡ cond (eqb q a) byte (get image q)
get-with_byte image a None q none =
    elim (cases_order q a) [
      | inl same ↦ ap (get image) same ∙ none ∙ ap (λ t. cond {A = Option ℕ} t None (get image q)) (sym (eq-eqb q a same))
      | inr apart ↦ ap (λ t. cond {A = Option ℕ} t None (get image q)) (sym (ne_eqb q a (λ same. omega arith)))
    ]
get-with_byte image a (Some byte) q none = get-insert nat_cmp_total image a byte q ∙ ap (λ t. cond t (Some byte) (get image q)) (tied q a)

-- at a lower address, at this one and at a higher one
get_here : (o p r : Option ℕ) (n q : ℕ) → q ≡ n → o ≡ p → cond (eqb q n) o r ≡ cond (ltb q (suc n)) p None
get_here o p r n q same e = ap (λ t. cond t o r) (eq-eqb q n same) ∙ e ∙ ap (λ t. cond t p None) (sym (lt-ltb q (suc n) (omega arith)))

get_below : (o p r : Option ℕ) (n q : ℕ) → q < n → r ≡ cond (ltb q n) p None → cond (eqb q n) o r ≡ cond (ltb q (suc n)) p None
get_below o p r n q less e =
    ap (λ t. cond t o r) (ne_eqb q n (λ same. omega arith)) ∙ e ∙ ap (λ t. cond t p None) (lt-ltb q n less) ∙ ap (λ t. cond t p None) (sym (lt-ltb q (suc n) (omega arith)))

get_above : (o p r : Option ℕ) (n q : ℕ) → n < q → r ≡ cond (ltb q n) p None → cond (eqb q n) o r ≡ cond (ltb q (suc n)) p None
get_above o p r n q more e =
    ap (λ t. cond t o r) (ne_eqb q n (λ same. omega arith)) ∙ e ∙ ap (λ t. cond t p None) (le-ltb q n (omega arith)) ∙ ap (λ t. cond t p None) (sym (le-ltb q (suc n) (omega arith)))

-- the image below n answers as f does there, and none from n on
get-image_below : (f : ℕ → Option ℕ) (n q : ℕ) → get (image_below f n) q ≡ cond (ltb q n) (f q) None
unfolding image_below
get-image_below f zero q = get-empty nat_cmp q ∙ ap (λ t. cond t (f q) None) (sym (le-ltb q 0 (omega arith)))
get-image_below f (suc n) q =
    get-with_byte (image_below f n) n (f n) q (get-image_below f n n ∙ ap (λ t. cond t (f n) None) (le-ltb n n (omega arith)))
    ∙ elim (cases_order q n) [
      | inl same ↦ get_here (f n) (f q) (get (image_below f n) q) n q same (ap f (sym same))
      | inr apart ↦ elim apart [
        | inl less ↦ get_below (f n) (f q) (get (image_below f n) q) n q less (get-image_below f n q)
        | inr more ↦ get_above (f n) (f q) (get (image_below f n) q) n q more (get-image_below f n q)
      ]
    ]

-- where f answers nothing from n on, the image below n answers as f does everywhere
pub get-image_below_all : (f : ℕ → Option ℕ) (n a : ℕ) → (n ≤ a → f a ≡ None) → get (image_below f n) a ≡ f a
get-image_below_all f n a none =
    get-image_below f n a
    ∙ elim (ltb a n) as (λ t. ltb a n ≡ t → cond t (f a) None ≡ f a) [ true ↦ λ e. refl | false ↦ λ e. sym (none (ltb-false a n e)) ] refl

-- and where it answers nothing at all, the image is empty
pub image_below-none : (f : ℕ → Option ℕ) (n : ℕ) → ((a : ℕ) → f a ≡ None) → image_below f n ≡ empty
image_below-none f n none =
    same_map nat_cmp_total nat_cmp-IsAntisymmetric (image_below f n) empty (λ a. get-image_below_all f n a (λ l. none a) ∙ none a ∙ sym (get-empty nat_cmp a))

-- the image of good blocks has at each address the byte that they have
pub get-image_of : (blocks : List BlockValue) → All IsBlock blocks → IsImageOf blocks (image_of blocks)
unfolding image_of
get-image_of blocks good a =
    get-image_below_all (byte_at blocks) top a (λ above.
    elim (byte_at blocks a) as (λ o. IfSome o (λ _. a < top) → o ≡ None) [ None ↦ λ h. refl | Some x ↦ λ h. absurd (omega arith) ] (byte_at-within blocks a good))

-- an image that answers as the good blocks do is theirs
pub image_of-same : (blocks : List BlockValue) (image : Image) → All IsBlock blocks → IsImageOf blocks image → image ≡ image_of blocks
image_of-same blocks image good is = same_map nat_cmp_total nat_cmp-IsAntisymmetric image (image_of blocks) (λ a. is a ∙ sym (get-image_of blocks good a))

-- no blocks make the empty image
pub image_of-none : image_of [] ≡ empty
unfolding image_of
image_of-none = image_below-none (byte_at []) top (λ a. refl)
