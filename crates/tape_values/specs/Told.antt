-- What is told of a thing that can be looked at only where its type tells it.
use Rattle.std.specs.Prelude.{◌≡◌, Option, Some, None, ⊤}

-- where it is told, it is this
abbrev pub IsAsTold : {A : Type 0} → Option A → A → Type 0
IsAsTold None thing = ⊤
IsAsTold (Some told) thing = thing ≡ told
