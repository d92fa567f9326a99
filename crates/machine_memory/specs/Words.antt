-- The words that a core tested.
use Rattle.std.specs.Prelude.{ℕ, List, [], ◌∷◌}
use Rattle.memory_core.specs.declared.seen.Seen.{Seen}
use Rattle.memory_report.specs.declared.findings.Word.{Word}

-- each with its address: what was read is of the first addresses
abbrev pub words_of : List ℕ → List Seen → List Word
words_of (address ∷ addresses) (seen ∷ more) = record { address = address; seen = seen } ∷ words_of addresses more
words_of addresses more = []
