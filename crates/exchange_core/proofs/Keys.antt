-- The characters of a chunk, and how many of them have been sent.
use Rattle.std.proofs.Common.{◌≡◌, ℕ, zero, suc, ◌+◌, ◌-◌, ◌*◌, ◌/◌, ◌≤◌, [], ◌∷◌, ◌++◌, length, refl, arith, ap, sym, ◌∙◌}
use Rattle.std.specs.Prelude.{min}
use Rattle.tape_image.specs.Image.{Image}
use Rattle.exchange_core.specs.declared.chunk.Chunk.{Chunk}
use Rattle.exchange_core.specs.declared.duplex.Duplex.{Duplex}
use Rattle.exchange_core.specs.declared.duplex.Duplex.TheVariants.{Full, Half}
use Rattle.exchange_core.specs.Chunk.{chunk_keys, key_at, keys_from, sent_at}

-- so many, and so many behind them
keys_join : (image : Image) (chunk : Chunk) (place a b : ℕ) → keys_from image chunk place a ++ keys_from image chunk (place + a) b ≡ keys_from image chunk place (a + b)
keys_join image chunk place zero b = ap (λ p. keys_from image chunk p b) (none place) ∙ ap (keys_from image chunk place) (begin b)
  where
    none : (n : ℕ) → n + 0 ≡ n
    none n = omega arith

    begin : (n : ℕ) → n ≡ 0 + n
    begin n = omega arith
keys_join image chunk place (suc a) b =
    ap (λ p. key_at image chunk place ∷ (keys_from image chunk (place + 1) a ++ keys_from image chunk p b)) (again place a)
    ∙ (ap (λ list. key_at image chunk place ∷ list) (keys_join image chunk (place + 1) a b) ∙ ap (keys_from image chunk place) (one a b))
  where
    again : (p n : ℕ) → p + suc n ≡ p + 1 + n
    again p n = omega arith

    one : (a b : ℕ) → suc (a + b) ≡ suc a + b
    one a b = omega arith

-- from one place over another up to a third
pub keys_through : (image : Image) (chunk : Chunk) (a b c : ℕ) → a ≤ b → b ≤ c → keys_from image chunk a (b - a) ++ keys_from image chunk b (c - b) ≡ keys_from image chunk a (c - a)
keys_through image chunk a b c low high =
    ap (λ p. keys_from image chunk a (b - a) ++ keys_from image chunk p (c - b)) (reaches a b low)
    ∙ (keys_join image chunk a (b - a) (c - b) ∙ ap (keys_from image chunk a) (sum a b c low high))
  where
    reaches : (a b : ℕ) → a ≤ b → b ≡ a + (b - a)
    reaches a b low = omega (arith, low)

    sum : (a b c : ℕ) → a ≤ b → b ≤ c → b - a + (c - b) ≡ c - a
    sum a b c low high = omega (arith, low, high)

-- the first ones, and so many behind them
pub keys_split : (image : Image) (chunk : Chunk) (left place : ℕ) → chunk_keys image chunk place ++ keys_from image chunk place left ≡ chunk_keys image chunk (place + left)
keys_split image chunk left place = ap (λ p. chunk_keys image chunk place ++ keys_from image chunk p left) (begin place) ∙ keys_join image chunk 0 place left
  where
    begin : (n : ℕ) → n ≡ 0 + n
    begin n = omega arith

-- one more of the first
pub keys_more : (image : Image) (chunk : Chunk) (place : ℕ) → chunk_keys image chunk (place + 1) ≡ chunk_keys image chunk place ++ key_at image chunk place ∷ []
keys_more image chunk place = sym (keys_split image chunk 1 place)

-- one more behind a place
pub keys_last : (image : Image) (chunk : Chunk) (from place : ℕ) → from ≤ place → keys_from image chunk from (place + 1 - from) ≡ keys_from image chunk from (place - from) ++ key_at image chunk place ∷ []
keys_last image chunk from place order =
    sym (keys_through image chunk from place (place + 1) order (omega arith)) ∙ ap (λ n. keys_from image chunk from (place - from) ++ keys_from image chunk place n) (one place)
  where
    one : (p : ℕ) → p + 1 - p ≡ 1
    one p = omega arith

pub keys_none : (image : Image) (chunk : Chunk) (from : ℕ) → keys_from image chunk from (from - from) ≡ []
keys_none image chunk from = ap (keys_from image chunk from) (none from)
  where
    none : (n : ℕ) → n - n ≡ 0
    none n = omega arith

pub keys_length : (image : Image) (chunk : Chunk) (place count : ℕ) → length (keys_from image chunk place count) ≡ count
keys_length image chunk place zero = refl
keys_length image chunk place (suc count) = ap suc (keys_length image chunk (place + 1) count)

-- ---- how many have been sent

-- all at most
pub sent_within : (duplex : Duplex) (chunk : Chunk) (place : ℕ) → sent_at duplex chunk place ≤ 2 * chunk.size
sent_within Full chunk place = omega arith
sent_within Half chunk place = omega arith

-- the byte that is answered as a whole
pub sent_reaches : (duplex : Duplex) (chunk : Chunk) (place : ℕ) → min (2 * (place / 2) + 2) (2 * chunk.size) ≤ sent_at duplex chunk place
sent_reaches Full chunk place = omega arith
sent_reaches Half chunk place = omega arith

pub sent_rises : (duplex : Duplex) (chunk : Chunk) (place : ℕ) → sent_at duplex chunk place ≤ sent_at duplex chunk (place + 1)
sent_rises Full chunk place = omega arith
sent_rises Half chunk place = omega arith

-- no more than a step can send
pub sent_first : (duplex : Duplex) (chunk : Chunk) → sent_at duplex chunk 0 ≤ 32
sent_first Full chunk = omega arith
sent_first Half chunk = omega arith

pub sent_next : (duplex : Duplex) (chunk : Chunk) (place : ℕ) → sent_at duplex chunk (place + 1) ≤ sent_at duplex chunk place + 2
sent_next Full chunk place = omega arith
sent_next Half chunk place = omega arith
