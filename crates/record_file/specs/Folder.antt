-- The folder in which a file of a name is.
use Rattle.std.specs.Prelude.{◌≡◌, ℕ, ◌<◌, List, length, [], ◌∷◌, ◌++◌, Contains, codes}
use Rattle.byte_io.specs.Text.{name_slash}

-- what stands in the name before its last slash
abbrev pub StandsBeforeSlash : List ℕ → List ℕ → Type 0
StandsBeforeSlash name front = (rest : List ℕ) × (name ≡ front ++ name_slash ∷ rest) × (Contains rest name_slash → ⊥)

-- a name without a slash is in the current folder, and one whose only slash is at its front in the root
pub data IsFolderOf (name : List ℕ) : List ℕ → Type 0 where
  Current : (Contains name name_slash → ⊥) → IsFolderOf name (codes ".")
  Root : StandsBeforeSlash name [] → IsFolderOf name (codes "/")
  Named : (folder : List ℕ) → 0 < length folder → StandsBeforeSlash name folder → IsFolderOf name folder
