-- What stands in memory while a stub fills one stretch.
use Rattle.std.proofs.Common.{◌≡◌, ℕ, ◌+◌, ◌-◌, ◌*◌, ◌/◌, ◌<◌, ◌⊎◌, List, length, Some, inl, inr, arith, ap, sym, subst, ◌∙◌}
use Rattle.std.specs.FinMap.{get}
use Rattle.tape_image.specs.Image.{Image}
use Rattle.tape_image.specs.Memory.{byte_of}
use Rattle.odt_machine.specs.Machine.{IsWide}
use Rattle.exchange_core.specs.declared.chunk.Chunk.{Chunk}
use Rattle.exchange_core.specs.Chunk.{IsChunk, IsIn, answer_at, answer_for, chunk_nr, told}
use Rattle.exchange_core.specs.Stretch.{stretch_of}
use Rattle.exchange_law.specs.Station.{ChangesAt}
use Rattle.exchange_law.specs.Unsettled.{IsInStretch}
use Rattle.exchange_law.specs.Law.{Holds}
use Rattle.exchange_law.proofs.Texts.{byte_small, half_of_even, half_of_odd, same_bytes, some_is}

-- no two chunks meet
abbrev pub AreApart : List Chunk → Type 0
AreApart chunks = (j k : ℕ) → j < k → k < length chunks → (b : ℕ) → IsIn (chunk_nr chunks j) b → IsIn (chunk_nr chunks k) b → ⊥

pub in_of : (chunk : Chunk) (b : ℕ) → IsInStretch (stretch_of chunk) b → IsIn chunk b
in_of chunk b of = record { from = of.from; to = of.to }

-- whatever is done to a byte of the chunk under way
pub within_holds : (image : Image) (chunks : List Chunk) (before : List ℕ) (done a : ℕ) (memory now : List ℕ) → AreApart chunks → done < length chunks → IsIn (chunk_nr chunks done) a → Holds image chunks before done memory →
    ChangesAt a memory now → Holds image chunks before done now
within_holds image chunks before done a memory now apart below inside h changes = record {
  size = changes.size ∙ h.size;
  stand = λ k less b is. h.stand k less b is ∙ ap (λ v. Some v) (sym (changes.bytes b (λ same. apart k done less below b is (subst (IsIn (chunk_nr chunks done)) (sym same) inside))));
  others = λ b none. changes.bytes b (λ same. none done below (subst (IsIn (chunk_nr chunks done)) (sym same) inside)) ∙ h.others b none;
}

-- ---- a whole answer

-- the answer that memory gives is the one that is awaited, at the first places
abbrev pub IsAnswered : Image → Chunk → List ℕ → ℕ → Type 0
IsAnswered image chunk memory places = (q : ℕ) → q < places → answer_at image chunk q ≡ answer_for (byte_of memory (chunk.address + q / 2)) q

at_place : (image : Image) (chunk : Chunk) (memory : List ℕ) (q j b : ℕ) → q / 2 ≡ j → chunk.address + j ≡ b → answer_at image chunk q ≡ answer_for (byte_of memory (chunk.address + q / 2)) q →
    answer_for (told image b) q ≡ answer_for (byte_of memory b) q
at_place image chunk memory q j b half at h =
    let here : chunk.address + q / 2 ≡ b = ap (λ n. chunk.address + n) half ∙ at in
    subst (λ a. answer_for (told image a) q ≡ answer_for (byte_of memory a) q) here h

chunk_stands : (image : Image) (chunk : Chunk) (memory : List ℕ) → IsChunk image chunk → ((a : ℕ) → told image a < 256) → IsWide memory → IsAnswered image chunk memory (2 * chunk.size) →
    (b : ℕ) → IsIn chunk b → get image b ≡ Some (byte_of memory b)
chunk_stands image chunk memory is small wide all b inside =
    let j : ℕ = b - chunk.address in
    let at : chunk.address + j ≡ b = omega (arith, inside.from) in
    let high = at_place image chunk memory (2 * j) j b (half_of_even j) at (all (2 * j) (omega (arith, inside.to, inside.from))) in
    let low = at_place image chunk memory (2 * j + 1) j b (half_of_odd j) at (all (2 * j + 1) (omega (arith, inside.to, inside.from))) in
    some_is (get image b) (byte_of memory b) (is.bytes b inside) (same_bytes (told image b) (byte_of memory b) j (small b) (byte_small memory wide b) high low)

below_or : (k n : ℕ) → k < n + 1 → (k < n) ⊎ (k ≡ n)
below_or k n h = grind arith

-- one chunk more stands
pub one_more_holds : (image : Image) (chunks : List Chunk) (before : List ℕ) (done : ℕ) (memory : List ℕ) → IsChunk image (chunk_nr chunks done) → ((a : ℕ) → told image a < 256) → IsWide memory →
    IsAnswered image (chunk_nr chunks done) memory (2 * (chunk_nr chunks done).size) → Holds image chunks before done memory → Holds image chunks before (done + 1) memory
one_more_holds image chunks before done memory is small wide all h = record {
  size = h.size;
  stand = λ k less b inside. elim (below_or k done less) [
    | inl earlier ↦ h.stand k earlier b inside
    | inr same ↦ chunk_stands image (chunk_nr chunks done) memory is small wide all b (subst (λ n. IsIn (chunk_nr chunks n) b) same inside)
  ];
  others = h.others;
}
