-- One word merged into one word, half by half.
use Rattle.std.proofs.Common.{◌≡◌, ℕ, ◌+◌, ◌*◌, ◌/◌, ◌%◌, ◌<◌, true, false, cond, refl, arith, ap, sym, ◌∙◌}
use Rattle.std.specs.Prelude.{◌==◌}
use Rattle.tape_image.specs.Memory.{half}
use Rattle.tape_image.specs.Word.{WordValue, covers, merged, merged_half, HalfStands, Stands}

-- two bytes make one word, and are its halves
low_of : (low high : ℕ) → low < 256 → (low + 256 * high) % 256 ≡ low
low_of low high l = omega arith

high_of : (low high : ℕ) → low < 256 → (low + 256 * high) / 256 ≡ high
high_of low high l = omega arith

pub halves_make_word : (word : ℕ) → word % 256 + 256 * (word / 256) ≡ word
halves_make_word word = omega arith

byte_below : (word : ℕ) → word % 256 < 256
byte_below word = omega arith

low_below : (w : WordValue) (old : ℕ) → merged_half 0 w old < 256
low_below w old = elim (covers 0 w.mask) as (λ t. cond t (w.value % 256) (old % 256) < 256) [ true ↦ byte_below w.value | false ↦ byte_below old ]

-- merged halves are the halves of the merged word
pub half-merged : (b : ℕ) (w : WordValue) (old : ℕ) → half b (merged w old) ≡ merged_half b w old
half-merged b w old =
    elim (b % 2 == 0) as (λ t. cond t (merged w old % 256) (merged w old / 256)
    ≡ cond (cond t (w.mask % 256) (w.mask / 256) == 255) (cond t (w.value % 256) (w.value / 256)) (cond t (old % 256) (old / 256))) [
      | true ↦ low_of (merged_half 0 w old) (merged_half 1 w old) (low_below w old)
      | false ↦ high_of (merged_half 0 w old) (merged_half 1 w old) (low_below w old)
    ]

-- under the mask a merged byte is the word's
half-merged_given : (b : ℕ) (w : WordValue) (old : ℕ) → covers b w.mask ≡ true → half b (merged w old) ≡ half b w.value
half-merged_given b w old e = half-merged b w old ∙ ap (λ t. cond t (half b w.value) (half b old)) e

-- a word stands where it was merged
pub Stands-merged : (w : WordValue) (old : ℕ) → Stands w (merged w old)
Stands-merged w old = record { low = λ t. half-merged_given 0 w old t; high = λ t. half-merged_given 1 w old t }

-- each byte of a word that stands is the byte that a merge would give
stands_half : (b : ℕ) (w : WordValue) (now : ℕ) → HalfStands b w now → merged_half b w now ≡ half b now
stands_half b w now s = elim (covers b w.mask) as (λ t. covers b w.mask ≡ t → cond t (half b w.value) (half b now) ≡ half b now) [ true ↦ λ e. sym (s e) | false ↦ λ e. refl ] refl

-- to merge a word where it stands changes nothing
pub merged-Stands : (w : WordValue) (now : ℕ) → Stands w now → merged w now ≡ now
merged-Stands w now s =
    ap (λ x. x + 256 * merged_half 1 w now) (stands_half 0 w now s.low) ∙ ap (λ x. now % 256 + 256 * x) (stands_half 1 w now s.high) ∙ halves_make_word now

-- where a merge changes nothing, the word stands
pub Stands-unchanged : (w : WordValue) (now : ℕ) → merged w now ≡ now → Stands w now
Stands-unchanged w now e = rw e at (Stands-merged w now)

-- a merged word has 16 bits
pub merged_below : (w : WordValue) (old : ℕ) → w.value < 65536 → old < 65536 → merged w old < 65536
merged_below w old v o = grind arith
