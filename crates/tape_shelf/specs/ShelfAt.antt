-- A shelf at a moment, and what was done on it from one to another.
use Rattle.std.specs.Prelude.{ℕ, List}
use Rattle.tape_shelf.specs.declared.shelf.Shelf.{Ghosts as Shelf}
use Rattle.tape_shelf.specs.Shelf.{ShelfStep}
use Rattle.tape_shelf.specs.ShelfTold.{AreDone, ShelfTold}

-- what it tells, and under which names the folder of its room may have been opened
pub record ShelfAt : Type 1 where
  pub told : ShelfTold
  pub is_opened_as : List ℕ → Type 0

-- this shelf now
abbrev pub shelf_at : {S : Type 0} → Shelf S → S → ShelfAt
shelf_at tell shelf = record { told = tell.told shelf; is_opened_as = tell.is_opened_as shelf }

-- these steps were done on it, in the folder that was open
abbrev pub HasDoneThere : List ShelfStep → ShelfAt → ShelfAt → Type 0
HasDoneThere steps before after = (folder : List ℕ) → before.is_opened_as folder → AreDone folder steps before.told after.told

-- wherever some steps had been done before, others have been by now, in the same folder, which is still open
abbrev pub GoesOnTo : List ShelfStep → List ShelfStep → ShelfAt → ShelfAt → Type 0
GoesOnTo steps steps' before after =
    (folder : List ℕ) (first : ShelfTold) → before.is_opened_as folder → AreDone folder steps first before.told
    → after.is_opened_as folder × AreDone folder steps' first after.told
