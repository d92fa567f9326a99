-- The plan of blocks keeps what every plan keeps.
use Rattle.std.proofs.Common.{◌≡◌, ℕ, zero, suc, ◌+◌, ◌*◌, ◌%◌, ◌<◌, ◌≤◌, true, false, cond, eqb, ltb, ◌++◌, List, [], Option, Some, None, refl, arith, ap, sym, ◌∙◌, subst}
use Rattle.std.specs.Prelude.{All, IfSome}
use Rattle.std.specs.Option.{option_or, option_to_list}
use Rattle.std.specs.Ordering.{nat_cmp}
use Rattle.std.specs.FinMap.{get, empty, get-empty}
use Rattle.std.proofs.lemmas.Bool.{eqb-true, lt-ltb}
use Rattle.std.proofs.lemmas.List.{append-nil}
use Rattle.tape_values.specs.Block.{BlockValue, IsBlock, HoldsBytes, top}
use Rattle.tape_image.specs.Image.{Image, image_of, byte_at}
use Rattle.tape_image.specs.Plan.{word_of, words_below, words_of, given_byte, program_start, plan_with, IsPlan}
use Rattle.tape_image.specs.Pages.{IsLaid}
use Rattle.tape_image.proofs.Blocks.{option_or-none, byte_at-within, byte_at-byte}
use Rattle.tape_image.proofs.Images.{get-image_of, image_of-same}
use Rattle.tape_image.proofs.Words.{IsByte, AreWords, AreWords-words_below, given_byte-words_below}

-- the words for no address, for one more, and for some more without a byte
pub words_below-none : (image : Image) → words_below image 0 ≡ []
unfolding words_below
words_below-none image = refl

words_below-suc : (image : Image) (n : ℕ) → words_below image (suc n) ≡ words_below image n ++ option_to_list (word_of (2 * n) (get image (2 * n)) (get image (2 * n + 1)))
unfolding words_below
words_below-suc image n = refl

pub words_below-more : (image : Image) (n a : ℕ) (low high : Option ℕ) → a ≡ 2 * n → get image a ≡ low → get image (a + 1) ≡ high → words_below image (n + 1) ≡ words_below image n ++ option_to_list (word_of a low high)
words_below-more image n a low high same l h =
    (let next : n + 1 ≡ suc n = omega arith in ap (words_below image) next)
    ∙ words_below-suc image n
    ∙ ap (λ i. words_below image n ++ option_to_list (word_of i (get image i) (get image (i + 1)))) (sym same)
    ∙ ap (λ o. words_below image n ++ option_to_list (word_of a o (get image (a + 1)))) l
    ∙ ap (λ o. words_below image n ++ option_to_list (word_of a low o)) h

pub words_below-same : (image : Image) (n k : ℕ) → ((a : ℕ) → 2 * n ≤ a → a < 2 * (n + k) → get image a ≡ None) → words_below image (n + k) ≡ words_below image n
words_below-same image n zero none = let same : n + 0 ≡ n = omega arith in ap (words_below image) same
words_below-same image n (suc k) none =
    (let next : n + suc k ≡ n + k + 1 = omega arith in ap (words_below image) next)
    ∙ words_below-more image (n + k) (2 * (n + k)) None None refl (none (2 * (n + k)) (omega arith) (omega arith)) (none (2 * (n + k) + 1) (omega arith) (omega arith))
    ∙ append-nil (words_below image (n + k))
    ∙ words_below-same image n k (λ a l u. none a l (omega arith))

pub words_below-all : (image : Image) → words_below image 28672 ≡ words_of image
unfolding words_of
words_below-all image = refl

-- the empty image has no words
pub words_of-empty : words_of empty ≡ []
words_of-empty = sym (words_below-all empty) ∙ words_below-same empty 0 28672 (λ a l u. get-empty nat_cmp a) ∙ words_below-none empty

-- the bytes of an image are bytes
image_bytes : (blocks : List BlockValue) → All IsBlock blocks → All HoldsBytes blocks → (a : ℕ) → IsByte (get (image_of blocks) a)
image_bytes blocks good bytes a = subst IsByte (sym (get-image_of blocks good a)) (byte_at-byte blocks a bytes)

-- and lie below the top
image_within : (blocks : List BlockValue) → All IsBlock blocks → (a : ℕ) → IfSome (get (image_of blocks) a) (λ _. a < top)
image_within blocks good a = subst (λ o. IfSome o (λ _. a < top)) (sym (get-image_of blocks good a)) (byte_at-within blocks a good)

-- so that the words below it give them all
within_is_all : (b : ℕ) (o : Option ℕ) → IfSome o (λ _. b < 57344) → o ≡ cond (ltb b 57344) o None
within_is_all b None h = elim (ltb b 57344) as (λ t. None ≡ cond {A = Option ℕ} t None None) [ true ↦ refl | false ↦ refl ]
within_is_all b (Some x) h = ap (λ t. cond t (Some x) None) (sym (lt-ltb b 57344 h))

-- a start that a plan may have
abbrev pub IsStart : Option ℕ → Type 0
IsStart o = IfSome o (λ start. (start % 2 ≡ 0) × (start < 65536))

pub program_start-even : (start : ℕ) → start < 65536 → IsStart (program_start start)
program_start-even start l = elim (eqb (start % 2) 0) as (λ t. eqb (start % 2) 0 ≡ t → IsStart (cond t (Some start) None)) [ true ↦ λ e. (eqb-true _ _ e, l) | false ↦ λ e. tt ] refl

AreWords-words_of : (image : Image) → ((a : ℕ) → IsByte (get image a)) → AreWords 28672 (words_of image)
AreWords-words_of image bytes = subst (AreWords 28672) (words_below-all image) (AreWords-words_below image 28672 (omega arith) bytes)

-- the plan of blocks and a start
pub IsPlan-of_blocks : (blocks : List BlockValue) (start : Option ℕ) → All IsBlock blocks → All HoldsBytes blocks → IsStart start
    → IsPlan (plan_with (image_of blocks) start)
IsPlan-of_blocks blocks start good holds even =
    let image : Image = image_of blocks in
    let bytes : ((a : ℕ) → IsByte (get image a)) = image_bytes blocks good holds in
    let words : AreWords 28672 (words_of image) = AreWords-words_of image bytes in
    record {
      words_of_image = refl;
      each = words.each;
      rising = words.rising;
      few = words.few;
      image_of_words = λ b.
          within_is_all b (get image b) (image_within blocks good b)
          ∙ sym (given_byte-words_below image 28672 b bytes)
          ∙ ap (λ ws. given_byte ws b) (words_below-all image);
      within = image_within blocks good;
      bytes = bytes;
      start_even = even;
    }

-- the image of blocks that are laid over nothing
pub laid-image_of : (blocks : List BlockValue) (nothing image : Image) → All IsBlock blocks → nothing ≡ empty → IsLaid (byte_at blocks) nothing image → image ≡ image_of blocks
laid-image_of blocks nothing image good none laid =
    image_of-same blocks image good (λ a. laid a ∙ ap (option_or (byte_at blocks a)) (ap (λ (m : Image). get m a) none ∙ get-empty nat_cmp a) ∙ option_or-none (byte_at blocks a))

-- plans of the same image and start
pub plan_with-same : (m n : Image) (s t : Option ℕ) → m ≡ n → s ≡ t → plan_with m s ≡ plan_with n t
plan_with-same m n s t e f = λ i. plan_with (e i) (f i)
