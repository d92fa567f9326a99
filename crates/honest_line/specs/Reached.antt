-- What calls on a line in memory say of it, by the moves of a line alone.
use Rattle.std.specs.Prelude.{◌≡◌, ℕ, [], ◌∷◌}
use Rattle.odt_machine.specs.Machine.{Machine}
use Rattle.host_devices.specs.declared.item.Item.{Item}
use Rattle.honest_line.specs.Honest.{Moved, IsHonest}
use Rattle.honest_line.specs.LineTable.{LineValue}

-- one item passed from what the line was to what it is
abbrev pub HasMoved : LineValue → Item → LineValue → Type 0
HasMoved old item new = (lost : ℕ) × Moved old.machine old.waiting (item ∷ []) lost new.machine new.waiting

-- nothing was said, and nothing moved
pub record IsUnmoved (old new : LineValue) : Type 0 where
  pub machine : new.machine ≡ old.machine
  pub waiting : new.waiting ≡ old.waiting
  pub items : new.items ≡ old.items

-- all that was said passed from the opening machine, with nothing waiting, to what the line is
abbrev pub IsReached : Machine → LineValue → Type 0
IsReached opening line = (lost : ℕ) × Moved opening [] line.items lost line.machine line.waiting

-- all that was said is honest from the opening machine to the line's
abbrev pub IsHonestFrom : Machine → LineValue → Type 0
IsHonestFrom opening line = (lost : ℕ) × IsHonest opening line.items lost line.machine
