-- What a reader finds that is given one byte.
use Rattle.std.proofs.Common.{ℕ, ◌<◌, ◌≡◌, List, [], ◌∷◌, length, take, slice_set, refl, arith}

pub first_set : (bytes : List ℕ) (byte : ℕ) → 0 < length bytes → take 1 (slice_set bytes 0 byte) ≡ byte ∷ []
first_set [] byte room = absurd (omega (arith, room))
first_set (other ∷ rest) byte room = refl
