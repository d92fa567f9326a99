-- The names of the ways in which a life ends (this project's own).
use Rattle.std.specs.Prelude.{ℕ, List, [], ◌++◌, Option, Some, None, codes}
use Rattle.octal.specs.Octal.{octal_text}
use Rattle.host_core.specs.declared.phase.End.{End}
use Rattle.host_core.specs.declared.phase.End.TheVariants.{Loaded, Started, Uncertain, MaybeStarted, GaveUp, NoWord, WontHold}

-- the word for an end
abbrev pub end_word : End → List ℕ
end_word Loaded = codes "Loaded"
end_word Started = codes "Started"
end_word Uncertain = codes "Uncertain"
end_word MaybeStarted = codes "MaybeStarted"
end_word GaveUp = codes "GaveUp"
end_word (NoWord address) = codes "NoWord"
end_word (WontHold address) = codes "WontHold"

-- the address of the word that was not there or did not hold
abbrev pub end_address : End → Option ℕ
end_address (NoWord address) = Some address
end_address (WontHold address) = Some address
end_address other = None

-- an address, where there is one, behind a space
abbrev pub address_behind : Option ℕ → List ℕ
address_behind None = []
address_behind (Some address) = codes " " ++ octal_text address

-- what an end is called: its word, and the address where it has one
abbrev pub end_name : End → List ℕ
end_name end = end_word end ++ address_behind (end_address end)
