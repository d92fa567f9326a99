-- What a call does to a list that a device tells, where its type tells one.
use Rattle.std.specs.Prelude.{◌≡◌, List, ◌++◌, Option, None, Some, ⊤}

-- a told list grows by these, and is still told; where nobody tells, nobody begins to
abbrev pub Gains : {A : Type 0} → Option (List A) → Option (List A) → List A → Type 0
Gains None None more = ⊤
Gains None (Some grown) more = ⊥
Gains (Some items) None more = ⊥
Gains (Some items) (Some grown) more = grown ≡ items ++ more

-- a told list stays as it was, and is told where it was told
abbrev pub SaysNothing : {A : Type 0} → Option (List A) → Option (List A) → Type 0
SaysNothing None None = ⊤
SaysNothing None (Some same) = ⊥
SaysNothing (Some items) None = ⊥
SaysNothing (Some items) (Some same) = same ≡ items

-- a list that somebody tells has grown by these; who tells may stop, and does not begin again
abbrev pub Tells : {A : Type 0} → Option (List A) → Option (List A) → List A → Type 0
Tells None None more = ⊤
Tells None (Some told) more = ⊥
Tells (Some items) None more = ⊤
Tells (Some items) (Some grown) more = grown ≡ items ++ more

-- where somebody tells what was asked, that has grown by steps of which this holds
abbrev pub HasAsked : {A : Type 0} → Option (List A) → Option (List A) → (List A → Type 0) → Type 0
HasAsked {A} old new P = (steps : List A) × Tells old new steps × P steps
