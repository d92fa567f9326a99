-- Which files a load takes away.
use Rattle.std.specs.Prelude.{◌≡◌, ◌⊎◌, ℕ, List, [], ◌∷◌, Some}
use Rattle.record_file.specs.Beginning.{IsBegun, IsNotBegun, IsRecordClosed}
use Rattle.record_file.specs.DiskStep.{DiskStep, Did, Remove}
use Rattle.record_file.specs.Known.{Known}
use Rattle.record_file.specs.declared.made.Made.TheVariants.{Here}

-- a name is taken away by a step, or by one of these
abbrev pub TakesAway : List ℕ → DiskStep → Type 0
TakesAway name (Did (Remove n)) = n ≡ name
TakesAway name other = ⊥

abbrev pub TakeAway : List ℕ → List DiskStep → Type 0
TakeAway name [] = ⊥
TakeAway name (step ∷ steps) = TakesAway name step ⊎ TakeAway name steps

-- a record that is begun takes its own name from no file; one that is not, or that is closed, only from one that this load made there
pub record IsItsOwn (name text : List ℕ) (known : Known) (steps : List DiskStep) : Type 0 where
  pub begun : IsBegun name known text steps → TakeAway name steps → ⊥
  pub not_begun : IsNotBegun name known text steps → TakeAway name steps → known.made ≡ Here
  pub closed : IsRecordClosed name (Some known) steps → TakeAway name steps → known.made ≡ Here

abbrev pub OnlyItsOwnFileGoes : Type 0
OnlyItsOwnFileGoes = (name text : List ℕ) (known : Known) (steps : List DiskStep) → IsItsOwn name text known steps
