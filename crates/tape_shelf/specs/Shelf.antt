-- What is asked of the place where a saved tape goes.
use Rattle.std.specs.Prelude.{ℕ, List, [], ◌∷◌, ◌++◌, Result, Ok, Err, ⊤}
use Rattle.tape_shelf.specs.declared.shelf.ShelfFault.{ShelfFault}
use Rattle.tape_shelf.specs.declared.shelf.ShelfFault.TheVariants.{IsThere, Write}

-- the room of so many bytes was asked for; or what an earlier save left there was to be gone on with, in which these numbers were found; or a
-- text was to be added there, or the last one of a tape; and what came of it
pub data ShelfStep : Type 0 where
  Reserve : ℕ → ShelfStep
  NotReserved : ℕ → ShelfFault → ShelfStep
  Resume : List ℕ → ShelfStep
  NotResumed : ShelfFault → ShelfStep
  Add : List ℕ → ShelfStep
  NotAdded : List ℕ → ShelfStep
  Put : List ℕ → ShelfStep
  NotPut : List ℕ → ShelfFault → ShelfStep

-- what was answered where a text was to be added
abbrev pub add_step : List ℕ → Result ⊤ ShelfFault → ShelfStep
add_step text (Ok done) = Add text
add_step text (Err fault) = NotAdded text

-- what was answered where a text was to be the last of a tape
abbrev pub put_step : List ℕ → Result ⊤ ShelfFault → ShelfStep
put_step text (Ok done) = Put text
put_step text (Err fault) = NotPut text fault

-- a tape is not put there because something is there, or because it can't be written
abbrev pub IsPutFault : ShelfFault → Type 0
IsPutFault IsThere = ⊤
IsPutFault Write = ⊤
IsPutFault other = ⊥

-- the text of the tape that was put there by these steps
abbrev pub written : List ShelfStep → List ℕ
written [] = []
written (Add text ∷ more) = text ++ written more
written (Put text ∷ more) = text ++ written more
written (other ∷ more) = written more
