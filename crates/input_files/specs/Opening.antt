-- The files that are opened by their names, in an order, and what each gives its reader.
use Rattle.std.specs.Prelude.{◌≡◌, ℕ, Bool, true, false, List, [], ◌∷◌, ◌++◌, Option, Some, None, Result, Ok, Err}
use Rattle.std.specs.Borrow.{Bor}
use Rattle.std.specs.Io.KnownBytes.{Keeps}
use Rattle.std.specs.List.{AllZip}
use Rattle.endings.specs.declared.failure.Failure.{Failure}
use Rattle.endings.specs.declared.failure.Failure.TheVariants.{CannotRead, NoMemory}

-- the name of a file, or of a console
abbrev pub Name : Type 0
Name = Bor (List ℕ)

-- a file was opened by this name, and what it will give, as far as its type tells; or it was not when it was to be
pub data InputStep : Type 0 where
  Opened : List ℕ → Option (List ℕ) → InputStep
  NotOpened : List ℕ → InputStep

-- what a file will give, where it was opened
abbrev pub given_by : {F E : Type 0} → (F → Option (List ℕ)) → Result F E → Option (Option (List ℕ))
given_by remaining (Ok file) = Some (remaining file)
given_by remaining (Err error) = None

-- a file was to be opened by this name, and what it will give where it was
abbrev pub opening : List ℕ → Option (Option (List ℕ)) → InputStep
opening name (Some given) = Opened name given
opening name None = NotOpened name

-- a name is tried once, or once more where the first try failed; and what its file will give, if it is open in the end
pub data IsTried (name : List ℕ) : Option (Option (List ℕ)) → List InputStep → Type 0 where
  Once : (given : Option (Option (List ℕ))) → IsTried name given (opening name given ∷ [])
  Again : (given : Option (Option (List ℕ))) → IsTried name given (NotOpened name ∷ opening name given ∷ [])

-- the files of these names are opened one behind the other: all of them; or up to the first that does not open, which is the one that is named;
-- or up to where memory is wanting, which may be behind a first try that failed
pub data AreTried : List Name → Option Failure → List InputStep → Type 0 where
  AllOpen : AreTried [] None []
  Opens : (name : Name) (names : List Name) (failure : Option Failure) (given : Option (List ℕ)) (steps rest : List InputStep) → IsTried name.now (Some given) steps
      → AreTried names failure rest → AreTried (name ∷ names) failure (steps ++ rest)
  Shut : (name : Name) (names : List Name) (steps : List InputStep) → IsTried name.now None steps
      → AreTried (name ∷ names) (Some (CannotRead name)) steps
  NoRoom : (names : List Name) → AreTried names (Some NoMemory) []
  NoRoomToRetry : (name : Name) (names : List Name) → AreTried (name ∷ names) (Some NoMemory) (NotOpened name.now ∷ [])

-- what the files will give that were opened in these steps, in their order
abbrev pub given_in : List InputStep → List (Option (List ℕ))
given_in [] = []
given_in (Opened name given ∷ steps) = given ∷ given_in steps
given_in (NotOpened name ∷ steps) = given_in steps

-- files of these names were opened behind others, and all that those and these will give is what their readers have left, where it is told: also of one that
-- was read ahead, since a name had to be tried twice
abbrev pub AreAdded : List Name → List (Option (List ℕ)) → List (Option (List ℕ)) → List InputStep → Type 0
AreAdded names others left steps = AreTried names None steps × AllZip Keeps (others ++ given_in steps) left

-- a file was not opened by this name, or it was and there is no memory for its buffer
abbrev pub IsUnbuffered : Name → Bool → Failure → Type 0
IsUnbuffered name opened (CannotRead other) = (other ≡ name) × (opened ≡ false)
IsUnbuffered name opened NoMemory = opened ≡ true
IsUnbuffered name opened other = ⊥
