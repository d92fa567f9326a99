-- A page's marked bytes.
use Rattle.std.proofs.Common.{◌≡◌, ℕ, ◌+◌, ◌-◌, ◌≤◌, Bool, true, false, List, length, get_or, replicate, Some, arith, ap, sym, ◌∙◌, inl, inr, drop, length-append, length-drop, length-take, length-take-le}
use Rattle.std.specs.Bool.{then_some}
use Rattle.std.specs.Option.{option_or}
use Rattle.std.specs.FinMap.{get, empty}
use Rattle.std.proofs.lemmas.Bool.{cases_lt}
use Rattle.std.proofs.lemmas.List.{get_or_past, get_or-replicate, length-replicate}
use borrow.Rule.Slice.PartMut.{put_mid, mid_of}
use Rattle.tape_values.specs.Block.{block_at}
use Rattle.tape_image.specs.Image.{Image, image_below, byte_in}
use Rattle.tape_image.specs.Pages.{marked_byte, IsLaid}
use Rattle.tape_image.proofs.Images.{get-image_below_all, image_below-none}
use Rattle.tape_image.proofs.Blocks.{byte_in-before, byte_in-inside, byte_in-behind, before, inside, behind, part_of}
use Rattle.tape_image.proofs.Parts.{get_or-put_mid_below, get_or-put_mid_in, get_or-put_mid_above}

-- a page answers with its marked bytes
pub get-page : (marks : List Bool) (bytes : List ℕ) (a : ℕ) → length marks ≡ 512 → get (image_below (marked_byte marks bytes) 512) a ≡ marked_byte marks bytes a
get-page marks bytes a size =
    get-image_below_all (marked_byte marks bytes) 512 a (λ above. ap (λ t. then_some t (get_or bytes a 0)) (get_or_past marks a false (omega arith)))

-- a page with no mark answers nothing
unmarked : (n a : ℕ) → get_or (replicate n false) a false ≡ false
unmarked n a = elim (cases_lt a n) [ inl l ↦ get_or-replicate n a false false l | inr m ↦ get_or_past (replicate n false) a false (omega (arith, length-replicate n false)) ]

pub page-unmarked : (n m : ℕ) (bytes : List ℕ) → image_below (marked_byte (replicate n false) bytes) m ≡ empty
page-unmarked n m bytes = image_below-none (marked_byte (replicate n false) bytes) m (λ a. ap (λ t. then_some t (get_or bytes a 0)) (unmarked n a))

-- a run that is written over bytes, and whose marks are set, is laid over what was marked
marked_byte-run : (marks : List Bool) (bytes run : List ℕ) (o k a : ℕ) → k ≡ length run → o + k ≤ length marks → o + k ≤ length bytes
    → marked_byte (put_mid o k marks (replicate k true)) (put_mid o k bytes run) a ≡ option_or (byte_in (block_at o run) a) (marked_byte marks bytes a)
marked_byte-run marks bytes run o k a same m b =
    elim (part_of o k a) [
      | before l ↦
          ap (λ t. then_some t (get_or (put_mid o k bytes run) a 0)) (get_or-put_mid_below o k marks (replicate k true) a false l (omega arith))
          ∙ ap (then_some (get_or marks a false)) (get_or-put_mid_below o k bytes run a 0 l (omega arith))
          ∙ ap (λ p. option_or p (marked_byte marks bytes a)) (sym (byte_in-before o run a l))
      | inside l u ↦
          ap (λ t. then_some t (get_or (put_mid o k bytes run) a 0)) (get_or-put_mid_in o k marks (replicate k true) a false l (omega (arith, length-replicate k true)) (omega arith) ∙ get_or-replicate k (a - o) true false (omega arith))
          ∙ ap (λ x. Some x) (get_or-put_mid_in o k bytes run a 0 l (omega arith) (omega arith))
          ∙ ap (λ p. option_or p (marked_byte marks bytes a)) (sym (byte_in-inside o run a l (omega arith)))
      | behind l ↦
          ap (λ t. then_some t (get_or (put_mid o k bytes run) a 0)) (get_or-put_mid_above o k marks (replicate k true) a false l (length-replicate k true) m)
          ∙ ap (then_some (get_or marks a false)) (get_or-put_mid_above o k bytes run a 0 l (sym same) b)
          ∙ ap (λ p. option_or p (marked_byte marks bytes a)) (sym (byte_in-behind o run a (omega arith)))
    ]

-- so a page over which it is written has it laid over what the page had
pub IsLaid-run : (marks marked : List Bool) (bytes written run : List ℕ) (o k : ℕ) (old : Image) → k ≡ length run → o + k ≤ 512
    → length marks ≡ 512 → length bytes ≡ 512 → image_below (marked_byte marks bytes) 512 ≡ old
    → marked ≡ replicate (length (mid_of o k marks)) true → written ≡ run
    → IsLaid (byte_in (block_at o run)) old (image_below (marked_byte (put_mid o k marks marked) (put_mid o k bytes written)) 512)
IsLaid-run marks marked bytes written run o k old same within m b is marks_are bytes_are a =
    let part : length (mid_of o k marks) ≡ k = length-take-le k (drop o marks) (omega (arith, length-drop o marks)) in
    let set : marked ≡ replicate k true = marks_are ∙ ap (λ n. replicate n true) part in
    let long : length marked ≡ k = ap length set ∙ length-replicate k true in
    let size : length (put_mid o k marks marked) ≡ 512 = simp (length-append, length-take, length-drop) (omega arith) in
    get-page (put_mid o k marks marked) (put_mid o k bytes written) a size
    ∙ ap (λ ms. marked_byte (put_mid o k marks ms) (put_mid o k bytes written) a) set
    ∙ ap (λ bs. marked_byte (put_mid o k marks (replicate k true)) (put_mid o k bytes bs) a) bytes_are
    ∙ marked_byte-run marks bytes run o k a same (omega arith) (omega arith)
    ∙ ap (option_or (byte_in (block_at o run) a)) (sym (get-page marks bytes a m) ∙ ap (λ (image : Image). get image a) is)
