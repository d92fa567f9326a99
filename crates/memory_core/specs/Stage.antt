-- What is deposited in the word under way (this project's choice): the complement of what it held, then that again.
use Rattle.std.specs.Prelude.{ℕ, ◌-◌, ◌<◌, Option, Some, None, ⊤}
use Rattle.memory_core.specs.declared.stage.Stage.{Stage}
use Rattle.memory_core.specs.declared.stage.Stage.TheVariants.{Unseen, Once, Turned, Returned}

-- the number each of whose sixteen bits is the other one
abbrev pub complement : ℕ → ℕ
complement number = 0o177777 - number

-- the number that is typed into the word
abbrev pub number_of : Stage → ℕ
number_of Unseen = 0
number_of (Once first) = 0
number_of (Turned old) = complement old
number_of (Returned old turned) = old

-- what the word held, once it was read twice
abbrev pub old_of : Stage → Option ℕ
old_of Unseen = None
old_of (Once first) = None
old_of (Turned old) = Some old
old_of (Returned old turned) = Some old

-- a digit may have been typed into the word
abbrev pub IsTouched : Stage → Type 0
IsTouched Unseen = ⊥
IsTouched (Once first) = ⊥
IsTouched (Turned old) = ⊤
IsTouched (Returned old turned) = ⊤

-- what was read of the word are words
abbrev pub AreNumbers : Stage → Type 0
AreNumbers Unseen = ⊤
AreNumbers (Once first) = first < 65536
AreNumbers (Turned old) = old < 65536
AreNumbers (Returned old turned) = (old < 65536) × (turned < 65536)
