-- The place of a sample (this project's choice).
use Rattle.std.specs.Prelude.{◌≡◌, ℕ, ◌-◌, ◌*◌, ◌/◌, nat_le, if◌then◌else◌, [], ◌∷◌, map, refl}

-- the place of the sample with this number, from 0 on, among so many words: its own where they are 8 or fewer, else so many sevenths of the way to the last
abbrev pub place_of : ℕ → ℕ → ℕ
place_of count number = if nat_le count 8 then number else number * (count - 1) / 7

-- worked out: of 20 words these eight
pub places_of_20 : map (place_of 20) (0 ∷ 1 ∷ 2 ∷ 3 ∷ 4 ∷ 5 ∷ 6 ∷ 7 ∷ []) ≡ 0 ∷ 2 ∷ 5 ∷ 8 ∷ 10 ∷ 13 ∷ 16 ∷ 19 ∷ []
places_of_20 = refl
