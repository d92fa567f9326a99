-- The chunks in which a host sends an image to a stub, and the characters in which they are told (this project's choice).
use Rattle.std.specs.Prelude.{◌≡◌, ◌↔◌, ℕ, zero, suc, ◌+◌, ◌-◌, ◌*◌, ◌/◌, ◌%◌, ◌<◌, ◌≤◌, ◌==◌, Bool, ◌&&◌, nat_le, min, true, if◌then◌else◌}
use Rattle.std.specs.Prelude.{IsSome, List, [], ◌∷◌, length, get_or, unwrap_or}
use Rattle.std.specs.FinMap.{get}
use Rattle.tape_values.specs.Block.{top}
use Rattle.tape_image.specs.Image.{Image}
use Rattle.tape_image.specs.Plan.{PlanValue, IsPlan}
use Rattle.tape_image.specs.Word.{WordValue, gives}
use Rattle.host_core.specs.Core.{word_nr}
use Rattle.exchange_core.specs.declared.chunk.Chunk.{Chunk}
use Rattle.exchange_core.specs.declared.duplex.Duplex.{Duplex}
use Rattle.exchange_core.specs.declared.duplex.Duplex.TheVariants.{Full, Half}

-- the most bytes of a chunk
abbrev pub largest_chunk : ℕ
largest_chunk = 64

-- the chunk past the end of every list
abbrev pub no_chunk : Chunk
no_chunk = record { address = 0; size = 0; until = 0 }

-- the chunk number k, counted from 0
abbrev pub chunk_nr : List Chunk → ℕ → Chunk
chunk_nr chunks k = get_or chunks k no_chunk

-- an address is one of the chunk's
pub record IsIn (chunk : Chunk) (b : ℕ) : Type 0 where
  pub from : chunk.address ≤ b
  pub to : b < chunk.address + chunk.size

-- the image's byte at an address
abbrev pub told : Image → ℕ → ℕ
told image a = unwrap_or (get image a) 0

-- the nibble of a byte that is told at a place: the high one at an even place, the low one at an odd one
abbrev pub nibble_of : ℕ → ℕ → ℕ
nibble_of byte place = if place % 2 == 0 then byte / 16 else byte % 16

-- the character for a nibble: 0140 and up
abbrev pub key_for : ℕ → ℕ → ℕ
key_for byte place = 0o140 + nibble_of byte place

-- the character in which a byte is answered: that of the complement of the nibble, from 0157 down
abbrev pub answer_for : ℕ → ℕ → ℕ
answer_for byte place = 0o157 - nibble_of byte place

-- these are the characters of a stub: 0140 to 0157
abbrev pub is_nibble : ℕ → Bool
is_nibble c = nat_le 0o140 c && nat_le c 0o157

-- the character that is sent at a place of a chunk
abbrev pub key_at : Image → Chunk → ℕ → ℕ
key_at image chunk place = key_for (told image (chunk.address + place / 2)) place

-- the character that is awaited at a place of its answer
abbrev pub answer_at : Image → Chunk → ℕ → ℕ
answer_at image chunk place = answer_for (told image (chunk.address + place / 2)) place

-- so many characters of a chunk, from a place on
abbrev pub keys_from : Image → Chunk → (place count : ℕ) → List ℕ
keys_from image chunk place zero = []
keys_from image chunk place (suc count) = key_at image chunk place ∷ keys_from image chunk (place + 1) count

-- the first ones
abbrev pub chunk_keys : Image → Chunk → ℕ → List ℕ
chunk_keys image chunk count = keys_from image chunk 0 count

-- a chunk is some bytes of the image, one to 64
pub record IsChunk (image : Image) (chunk : Chunk) : Type 0 where
  pub some : 1 ≤ chunk.size
  pub few : chunk.size ≤ largest_chunk
  pub below : chunk.address + chunk.size ≤ top
  pub bytes : (b : ℕ) → IsIn chunk b → IsSome (get image b)

-- how many characters the host may have sent of a chunk's once it has heard so many of the answer: 32 more, which are a second at 300 baud and so less
-- than a silence; or up to the end of the byte that is answered
abbrev pub may_send : Duplex → ℕ → ℕ
may_send Full place = place + 32
may_send Half place = 2 * (place / 2) + 2

-- how many it has sent: as many as it may, or all
abbrev pub sent_at : Duplex → Chunk → ℕ → ℕ
sent_at duplex chunk place = min (may_send duplex place) (2 * chunk.size)

-- how many words are verified behind so many chunks, of which the first begins behind `from` words
abbrev pub words_behind : ℕ → List Chunk → ℕ → ℕ
words_behind from chunks zero = from
words_behind from chunks (suc n) = (chunk_nr chunks n).until

-- one of the words from number a up to number b, b excluded, gives the byte at an address
abbrev pub IsGiven : List WordValue → ℕ → ℕ → ℕ → Type 0
IsGiven words a b address = (i : ℕ) × (a ≤ i) × (i < b) × (gives (word_nr words i) address ≡ true)

-- these chunks are the plan's words behind the first `from`, in their order: each goes on where the one before it ended, with some words more, and has
-- exactly the bytes that these give
pub record AreChunks (plan : PlanValue) (from : ℕ) (chunks : List Chunk) : Type 0 where
  pub sound : IsPlan plan
  pub some : 0 < length chunks
  pub each : (k : ℕ) → k < length chunks → IsChunk plan.image (chunk_nr chunks k)
  pub rising : (k : ℕ) → k < length chunks → words_behind from chunks k < (chunk_nr chunks k).until
  pub within : (k : ℕ) → k < length chunks → (chunk_nr chunks k).until ≤ length plan.words
  pub bytes : (k b : ℕ) → k < length chunks → IsIn (chunk_nr chunks k) b ↔ IsGiven plan.words (words_behind from chunks k) (chunk_nr chunks k).until b
