-- The chunks of some words of a plan, and the stretches of a stub's table that they make (this project's choice).
use Rattle.std.specs.Prelude.{◌≡◌, ◌↔◌, ℕ, ◌+◌, ◌-◌, ◌/◌, ◌%◌, ◌<◌, ◌≤◌, ◌⊎◌, ◌==◌, if◌then◌else◌, All, List, [], ◌∷◌, ◌++◌, length, map}
use Rattle.tape_image.specs.Plan.{PlanValue, IsPlan}
use Rattle.tape_image.specs.Word.{WordValue}
use Rattle.host_core.specs.Core.{word_nr}
use Rattle.exchange_core.specs.declared.chunk.Chunk.{Chunk}
use Rattle.exchange_core.specs.declared.stretch.Stretch.{Stretch}
use Rattle.exchange_core.specs.Chunk.{AreChunks, IsChunk, IsGiven, IsIn, chunk_nr, largest_chunk, words_behind}
use Rattle.exchange_core.specs.Stretch.{places, stretch_of}

-- the bytes of a word
abbrev pub bytes_of : WordValue → Stretch
bytes_of w = record { from = if w.mask == 0o177400 then w.address + 1 else w.address; to = if w.mask == 0o377 then w.address + 1 else w.address + 2 }

-- the address behind a chunk
abbrev pub end_of : Chunk → ℕ
end_of chunk = chunk.address + chunk.size

-- a chunk reaches over no multiple of 64
abbrev pub IsInBlock : Chunk → Type 0
IsInBlock chunk = chunk.address / largest_chunk ≡ (end_of chunk - 1) / largest_chunk

-- a chunk that begins with the word number a and has only words before number `to`: it ends where these do, where the next word does not follow, or at a
-- multiple of 64
pub record IsNextChunk (plan : PlanValue) (a to : ℕ) (chunk : Chunk) : Type 0 where
  pub sound : IsPlan plan
  pub is : IsChunk plan.image chunk
  pub rising : a < chunk.until
  pub within : chunk.until ≤ to
  pub first : chunk.address ≡ (bytes_of (word_nr plan.words a)).from
  pub bytes : (b : ℕ) → IsIn chunk b ↔ IsGiven plan.words a chunk.until b
  pub block : IsInBlock chunk
  pub whole : chunk.until < to → (bytes_of (word_nr plan.words chunk.until)).from ≡ end_of chunk → end_of chunk % largest_chunk ≡ 0

-- none reaches over a multiple of 64, and where one follows another directly there is one
pub record AreCut (chunks : List Chunk) : Type 0 where
  pub some : (k : ℕ) → k < length chunks → 0 < (chunk_nr chunks k).size
  pub block : (k : ℕ) → k < length chunks → IsInBlock (chunk_nr chunks k)
  pub seam : (k : ℕ) → k + 1 < length chunks → (chunk_nr chunks (k + 1)).address ≡ end_of (chunk_nr chunks k) → end_of (chunk_nr chunks k) % largest_chunk ≡ 0

-- the chunks of a plan's words from one number up to another
pub record AreChunksUpTo (plan : PlanValue) (from to : ℕ) (chunks : List Chunk) : Type 0 where
  pub are : AreChunks plan from chunks
  pub all : words_behind from chunks (length chunks) ≡ to
  pub cut : AreCut chunks

-- stretches that have the bytes of these chunks, in their order; each has a byte
pub record AreStretches (chunks : List Chunk) (stretches : List Stretch) : Type 0 where
  pub places_are : places stretches ≡ places (map stretch_of chunks)
  pub some : All (λ s. s.from < s.to) stretches
  pub few : length stretches ≤ length chunks

-- a stretch that ends at an address is taken out, and its beginning is the answer; where none ends there the address is
abbrev pub IsTakenUp : List Stretch → ℕ → ℕ → List Stretch → Type 0
IsTakenUp old address from new = (old ≡ new ++ record { from = from; to = address } ∷ []) ⊎ ((new ≡ old) × (from ≡ address))
