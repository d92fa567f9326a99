-- The blocks of what is read, as its numbers come: each is on the shelf once it is full.
use Rattle.std.specs.Prelude.{◌≡◌, ◌⊎◌, ℕ, ◌+◌, ◌*◌, ◌<◌, ◌≤◌, List, [], ◌∷◌, ◌++◌, length, Option, Some, None}
use Rattle.tape_values.specs.Block.{data_block, top}
use Rattle.looking_engine.specs.Stopping.{LookStop}
use Rattle.tape_shelf.specs.SavedSteps.{adds, full, not_all_added}
use Rattle.tape_shelf.specs.SavedTape.{block_words, saved_block}
use Rattle.tape_shelf.specs.Shelf.{Add, NotAdded}
use Rattle.tape_shelf.specs.ShelfAt.{GoesOnTo, ShelfAt}
use Rattle.tape_shelf.specs.ShelfTold.{IsDone}

-- where the block under way begins, its numbers so far, and the shelf and its name
pub record BlocksAt (Name : Type 0) : Type 1 where
  pub from : ℕ
  pub numbers : List ℕ
  pub shelf : ShelfAt
  pub name : Name

abbrev pub blocks_at : {Name : Type 0} → ℕ → List ℕ → ShelfAt → Name → BlocksAt Name
blocks_at from numbers shelf name = record { from = from; numbers = numbers; shelf = shelf; name = name }

-- it is the same shelf, in the folder that was open
pub record IsSameShelf {Name : Type 0} (old new : BlocksAt Name) : Type 0 where
  pub name : new.name ≡ old.name
  pub opened : (folder : List ℕ) → old.shelf.is_opened_as folder → new.shelf.is_opened_as folder

-- the text of the block with one number more
abbrev pub text_with : {Name : Type 0} → BlocksAt Name → ℕ → List ℕ
text_with old number = data_block (saved_block old.from (old.numbers ++ number ∷ []) 0)

-- a number came, and the block is not full yet
pub record Waits {Name : Type 0} (old : BlocksAt Name) (number : ℕ) (new : BlocksAt Name) : Type 0 where
  pub short : length old.numbers + 1 < block_words
  pub from : new.from ≡ old.from
  pub numbers : new.numbers ≡ old.numbers ++ number ∷ []
  pub shelf : IsSameShelf old new
  pub untouched : new.shelf.told ≡ old.shelf.told

-- it is full, and on the shelf, and the next begins behind it
pub record Fills {Name : Type 0} (old : BlocksAt Name) (number : ℕ) (new : BlocksAt Name) : Type 0 where
  pub whole : length old.numbers + 1 ≡ block_words
  pub from : new.from ≡ old.from + 2 * block_words
  pub numbers : new.numbers ≡ []
  pub shelf : IsSameShelf old new
  pub added : (folder : List ℕ) → IsDone folder (Add (text_with old number)) old.shelf.told new.shelf.told

abbrev pub AddsNumber : {Name : Type 0} → BlocksAt Name → ℕ → BlocksAt Name → Type 0
AddsNumber old number new = Waits old number new ⊎ Fills old number new

-- it is full, and could not be put there
pub record NotFilled {Name : Type 0} (old : BlocksAt Name) (number : ℕ) (new : BlocksAt Name) : Type 0 where
  pub whole : length old.numbers + 1 ≡ block_words
  pub shelf : IsSameShelf old new
  pub not_added : (folder : List ℕ) → IsDone folder (NotAdded (text_with old number)) old.shelf.told new.shelf.told

-- there is no room for it: the block is full already, or would lie past the top of memory
pub record HasNoRoom {Name : Type 0} (old : BlocksAt Name) (new : BlocksAt Name) : Type 0 where
  pub past : (block_words ≤ length old.numbers) ⊎ (top < old.from + 2 * (length old.numbers + 1))
  pub shelf : IsSameShelf old new

abbrev pub AddsNoNumber : {Name : Type 0} → BlocksAt Name → ℕ → BlocksAt Name → Type 0
AddsNoNumber old number new = NotFilled old number new ⊎ HasNoRoom old new

-- these numbers came, from an address on: each full block of them is on the shelf, and those behind are under way
pub record HasAdded {Name : Type 0} (from : ℕ) (numbers : List ℕ) (before : ShelfAt) (now : BlocksAt Name) : Type 0 where
  pub blocks : List ℕ
  pub numbers_are : numbers ≡ blocks ++ now.numbers
  pub whole : length blocks ≡ block_words * full blocks
  pub short : length now.numbers < block_words
  pub begins : now.from ≡ from + 2 * length blocks
  pub added : GoesOnTo [] (adds from blocks (full blocks)) before now.shelf

-- each full block of these numbers is on the shelf; or one could not be put there, those before it are, and the numbers make more
abbrev pub AddsAll : Option LookStop → ℕ → List ℕ → ShelfAt → ShelfAt → Type 0
AddsAll (Some stop) from values before after = GoesOnTo [] (adds from values (full values)) before after
AddsAll None from values before after = (n : ℕ) × (n < full values) × GoesOnTo [] (not_all_added from values n) before after
