-- Stretches of an image, which a stub's table has (this project's choice).
use Rattle.std.specs.Prelude.{ℕ, zero, suc, ◌+◌, ◌-◌, List, [], ◌∷◌, ◌++◌}
use Rattle.exchange_core.specs.declared.chunk.Chunk.{Chunk}
use Rattle.exchange_core.specs.declared.stretch.Stretch.{Stretch}

-- so many addresses, from one on
abbrev pub places_from : ℕ → ℕ → List ℕ
places_from zero a = []
places_from (suc n) a = a ∷ places_from n (a + 1)

-- the addresses of all stretches, in their order: these bytes a stub takes, one after another
abbrev pub places : List Stretch → List ℕ
places [] = []
places (stretch ∷ stretches) = places_from (stretch.to - stretch.from) stretch.from ++ places stretches

-- the bytes of a chunk
abbrev pub stretch_of : Chunk → Stretch
stretch_of chunk = record { from = chunk.address; to = chunk.address + chunk.size }
