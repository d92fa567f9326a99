-- How a list of sent and heard things passes over a line, at whose other end no host stands; and over one with ODT at its end.
use Rattle.std.specs.Prelude.{◌≡◌, ℕ, List, [], ◌∷◌}
use Rattle.odt_machine.specs.KeyTable.{take_of}
use Rattle.host_core.specs.declared.heard.Heard.{Heard}
use Rattle.host_core.specs.declared.heard.Heard.TheVariants.{Got, Quiet}
use Rattle.line_world.specs.Wire.{Line, Wire, Any, Moving, Times, with_answer, heard, sent}
use Rattle.host_devices.specs.declared.item.Item.{Item}
use Rattle.host_devices.specs.declared.item.Item.TheVariants.{Sent, Heard as Came}

-- a character is heard where it is the first under way, and nothing where nothing is under way in either direction
abbrev pub Gives : {M : Type 0} → Line M → Heard → Line M → Type 0
Gives x (Got c) y = (rest : List ℕ) × (x.up ≡ c ∷ rest) × (y ≡ heard x rest)
Gives x Quiet y = (x.down ≡ []) × (x.up ≡ []) × (y ≡ x)

-- a list passes over the line: each character is sent, and before each heard thing, and once at the end, stand any steps of a kind
abbrev pub Passing : {M : Type 0} → (Line M → Line M → Type 0) → Line M → List Item → Line M → Type 0
Passing Step x [] y = Any Step x y
Passing Step x (Sent key ∷ items) y = Passing Step (sent x (key ∷ [])) items y
Passing {M} Step x (Came what ∷ items) y =
    (moved : Line M) × (given : Line M) × Any Step x moved × Gives moved what given × Passing Step given items y

-- ---- over a line with ODT at its end

-- the machine takes the first key under way, and answers
abbrev pub Takes : Wire → Wire → Type 0
Takes wire wire' = (c : ℕ) × (rest : List ℕ) × (wire.down ≡ c ∷ rest) × (wire' ≡ with_answer wire rest (take_of wire.machine c))

-- one move: a delivery to the machine, or a loss
abbrev pub Moves : Wire → Wire → Type 0
Moves wire wire' = Moving Takes wire wire'

-- so many moves
abbrev pub MovesTimes : ℕ → Wire → Wire → Type 0
MovesTimes n wire wire' = Times Moves n wire wire'

-- any number of moves
abbrev pub MovesOn : Wire → Wire → Type 0
MovesOn wire wire' = Any Moves wire wire'

-- a list passes over it
abbrev pub Passes : Wire → List Item → Wire → Type 0
Passes wire items wire' = Passing Moves wire items wire'
