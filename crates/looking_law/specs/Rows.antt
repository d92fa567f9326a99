-- Honest lines in a row.
use Rattle.std.specs.Prelude.{◌≡◌, ℕ, ◌+◌, List, [], ◌∷◌, ◌++◌}
use Rattle.odt_machine.specs.Machine.{Machine}
use Rattle.host_devices.specs.declared.item.Item.{Item}
use Rattle.honest_line.specs.Honest.{IsHonest}

-- all the parts, one after another
abbrev pub in_a_row : List (List Item) → List Item
in_a_row [] = []
in_a_row (said ∷ parts) = said ++ in_a_row parts

-- the parts passed over honest lines, each from the machine where the one before it ended, and so many characters were
-- lost in all
abbrev pub AreHonest : Machine → List (List Item) → ℕ → Machine → Type 0
AreHonest machine [] lost machine' = (machine' ≡ machine) × (lost ≡ 0)
AreHonest machine (said ∷ parts) lost machine' =
    (between : Machine) × (first later : ℕ) × IsHonest machine said first between × AreHonest between parts later machine' × (lost ≡ first + later)
