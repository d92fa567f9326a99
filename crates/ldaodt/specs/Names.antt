-- What the names on a command line lead to (this project's own).
use Rattle.std.specs.Prelude.{ℕ, Bool, true, false, List, Option, None, IsTrue}
use Rattle.tape_values.specs.Told.{IsAsTold}
use Rattle.console_lines.specs.Path.{has_slash}
use Rattle.endings.specs.declared.failure.Failure.{Failure}
use Rattle.endings.specs.declared.failure.Failure.TheVariants.{Misplaced}
use Rattle.endings.specs.declared.place.Place.{Place}
use Rattle.endings.specs.declared.place.Place.TheVariants.{Tape, Script, Words, Record}

-- whether a path leads to something that is there and no device, and whether a name is a terminal's, each where that is told
pub record NamesTold : Type 0 where
  pub no_device : List ℕ → Option Bool
  pub terminal : List ℕ → Option Bool

-- of no name anything is told
abbrev pub untold : NamesTold
untold = record { no_device = λ _. None; terminal = λ _. None }

-- whether a place is that of a line
abbrev pub is_line : Place → Bool
is_line Tape = false
is_line Script = false
is_line Words = false
is_line Record = false
is_line other = true

-- a name can't be a line's: it is a path, and leads to something that is there and no device; or it can't be another place's: it is a terminal's
abbrev pub IsOutAs : NamesTold → (line : Bool) → List ℕ → Type 0
IsOutAs told true name = IsTrue (has_slash name) × IsAsTold (told.no_device name) true
IsOutAs told false name = IsAsTold (told.terminal name) true

-- a name can't be what its place asks for
abbrev pub IsOutAt : NamesTold → Place → List ℕ → Type 0
IsOutAt told place name = IsOutAs told (is_line place) name

-- a failure says so of such a name
abbrev pub IsOut : NamesTold → Failure → Type 0
IsOut told (Misplaced name place) = IsOutAt told place name.now
IsOut told other = ⊥
