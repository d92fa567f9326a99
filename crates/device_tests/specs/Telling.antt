-- What a stream that does as a test says still has to come.
use Rattle.std.specs.Prelude.{ℕ, Bool, true, false, List, [], ◌∷◌}
use Rattle.device_tests.specs.declared.telling.Step.{Step}
use Rattle.device_tests.specs.declared.telling.Step.TheVariants.{Byte, Nothing, Interrupted, Failed}

-- the bytes of these steps, in their order
abbrev pub bytes_of : List Step → List ℕ
bytes_of [] = []
bytes_of (Byte byte ∷ steps) = byte ∷ bytes_of steps
bytes_of (Nothing ∷ steps) = bytes_of steps
bytes_of (Interrupted ∷ steps) = bytes_of steps
bytes_of (Failed ∷ steps) = bytes_of steps

-- no step is left
abbrev pub is_empty : List Step → Bool
is_empty [] = true
is_empty (step ∷ steps) = false
