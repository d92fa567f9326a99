-- A test of a bus at one word: the numbers that are deposited there, and the words that are looked at meanwhile.
use Rattle.std.specs.Prelude.{ℕ, Bool, ◌==◌, if◌then◌else◌, List, [], ◌∷◌, bit_xor}
use Rattle.std.specs.List.{filter}
use Rattle.std.specs.Int.{is_power_of_two}
use Rattle.reading_core.specs.Addresses.{addresses_between}

-- the number by which a word is known again: not the one that it held before
abbrev pub mark : ℕ → ℕ
mark old = if old == 0o177400 then 0o377 else 0o177400

-- the numbers at the places 0 to 3, the last of which is the mark: any two of the sixteen data lines carry two bits in one of them
abbrev pub number_at : ℕ → ℕ → ℕ
number_at place old = if place == 0 then 0o125252 else if place == 1 then 0o146314 else if place == 2 then 0o170360 else mark old

-- two addresses differ in one line
abbrev pub is_neighbour : ℕ → ℕ → Bool
is_neighbour at address = is_power_of_two (bit_xor at address)

-- the words from one on, below the addresses of devices, that are one address line from a word
abbrev pub neighbours : ℕ → ℕ → List ℕ
neighbours at first = filter (is_neighbour at) (addresses_between first 0o157776)

-- of the words at these addresses, of which these numbers were read, those that read this one
abbrev pub reading : ℕ → List ℕ → List ℕ → List ℕ
reading number (address ∷ addresses) (value ∷ values) = if value == number then address ∷ reading number addresses values else reading number addresses values
reading number addresses values = []
