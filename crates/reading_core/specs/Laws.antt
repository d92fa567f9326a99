-- What holds of a reading host over everything that it may ever hear.
use Rattle.std.specs.Prelude.{ℕ, ◌+◌, ◌≤◌, List, [], ◌∷◌, ◌++◌, length, option_to_list}
use Rattle.host_core.specs.declared.heard.Heard.{Heard}
use Rattle.reading_core.specs.Reader.{Reader}
use Rattle.reading_core.specs.Bound.{life_bound}
use Rattle.reading_core.specs.ReadingTable.{ask}

-- the reader that a list of heard things makes
abbrev pub led : Reader → List Heard → Reader
led r [] = r
led r (heard ∷ more) = led (ask r heard).next more

-- the characters that answer a list of heard things
abbrev pub replay : Reader → List Heard → List ℕ
replay r [] = []
replay r (heard ∷ more) = option_to_list (ask r heard).key ++ replay (ask r heard).next more

-- whatever is heard, this life sends no more characters than the bound, those that it has sent included
abbrev pub KeepsBound : Reader → Type 0
KeepsBound r = (heard : List Heard) → r.sent + length (replay r heard) ≤ life_bound r.manner.care (length r.addresses) r.patience
