-- What was said on a line in memory since it was lent.
use Rattle.std.specs.Prelude.{◌≡◌, ℕ, List, [], ◌++◌, false, None}
use Rattle.odt_machine.specs.declared.mode.Mode.TheVariants.{Prompt}
use Rattle.host_devices.specs.declared.item.Item.{Item}
use Rattle.honest_line.specs.Honest.{Moved}
use Rattle.honest_line.specs.LineTable.{LineValue, quiet_line}

-- a line on which nothing was said, over a machine with no memory
abbrev pub no_line : LineValue
no_line = quiet_line (record { style = record { space_before = false; two_returns = false; echo_illegal = false }; memory = []; mode = Prompt }) [] 0 None

-- these things were said on the line meanwhile, and passed over it with so many losses
pub record Passed (old new : LineValue) (said : List Item) (lost : ℕ) : Type 0 where
  pub items : new.items ≡ old.items ++ said
  pub moved : Moved old.machine old.waiting said lost new.machine new.waiting

-- whatever was said on the line meanwhile passed over it
abbrev pub HasMovedOn : LineValue → LineValue → Type 0
HasMovedOn old new = (said : List Item) × (lost : ℕ) × Passed old new said lost
