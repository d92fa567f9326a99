-- What a word that is stored changes in a memory, byte by byte.
use Rattle.std.proofs.Common.{◌≡◌, ◌≢◌, ℕ, ◌/◌, ◌<◌, true, false, cond, eqb, List, length, refl, ap, sym, ◌∙◌, get_or-set_other, get_or-set_same}
use Rattle.std.specs.Prelude.{◌&&◌, slice_index, slice_set}
use Rattle.std.proofs.lemmas.Bool.{eqb-true, eqb-false}
use Rattle.tape_image.specs.Memory.{half, byte_of}
use Rattle.tape_image.specs.Word.{WordValue, covers, gives, merged}
use Rattle.tape_image.proofs.Halves.{half-merged}

-- a stored word changes its own two bytes
byte_of-store_same : (memory : List ℕ) (i v b : ℕ) → i < length memory → b / 2 ≡ i → byte_of (slice_set memory i v) b ≡ half b v
byte_of-store_same memory i v b l e = ap (λ k. half b (slice_index (slice_set memory i v) k)) e ∙ ap (half b) (get_or-set_same memory i v 0 l)

-- and no other
byte_of-store_other : (memory : List ℕ) (i v b : ℕ) → b / 2 ≢ i → byte_of (slice_set memory i v) b ≡ byte_of memory b
byte_of-store_other memory i v b ne = ap (half b) (get_or-set_other memory i (b / 2) v 0 ne)

-- the memory with the word merged in at its address
abbrev pub with_word : List ℕ → WordValue → List ℕ
with_word memory w = slice_set memory (w.address / 2) (merged w (slice_index memory (w.address / 2)))

-- a merged word changes the bytes that it gives, to its own, and no other
pub byte_of-with_word : (memory : List ℕ) (w : WordValue) (b : ℕ) → w.address / 2 < length memory → byte_of (with_word memory w) b ≡ cond (gives w b) (half b w.value) (byte_of memory b)
byte_of-with_word memory w b l =
    let i = w.address / 2 in
    elim (eqb i (b / 2)) as (λ t. eqb i (b / 2) ≡ t → byte_of (with_word memory w) b ≡ cond (t && covers b w.mask) (half b w.value) (byte_of memory b)) [
      | true ↦ λ e.
          let same : b / 2 ≡ i = sym (eqb-true i (b / 2) e) in
          byte_of-store_same memory i (merged w (slice_index memory i)) b l same
          ∙ half-merged b w (slice_index memory i)
          ∙ ap (λ k. cond (covers b w.mask) (half b w.value) (half b (slice_index memory k))) (sym same)
      | false ↦ λ e. byte_of-store_other memory i (merged w (slice_index memory i)) b (λ same. eqb-false i (b / 2) e (sym same))
    ] refl
