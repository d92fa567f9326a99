-- What was found of a bus at one word that holds.
use Rattle.std.specs.Prelude.{ℕ, Bool, ◌==◌, List, Option}
use Rattle.std.specs.List.{filter, list_any}
use Rattle.memory_report.specs.declared.findings.Bus.{Bus}

-- the word at which it was tested, whether a number would not stand there, how many words were looked at while it held a mark, which of them
-- read the mark, and which what the word had held before, once that was put back
pub record BusFound : Type 0 where
  pub at : Option ℕ
  pub touches : Bool
  pub looked_at : ℕ
  pub marked : List ℕ
  pub returned : List ℕ

abbrev pub bus_of : Bus → BusFound
bus_of b = record { at = b.at; touches = b.touches; looked_at = b.looked_at; marked = b.marked.items; returned = b.returned.items }

-- a word that follows the one that was tested: it read the mark, and then what that had held before, though nothing was deposited in it
abbrev pub is_same : BusFound → ℕ → Bool
is_same b address = list_any (λ other. other == address) b.returned

abbrev pub same_words : BusFound → List ℕ
same_words b = filter (is_same b) b.marked
