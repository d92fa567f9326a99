-- How many characters a life can send.
use Rattle.std.specs.Prelude.{ℕ, ◌+◌, ◌*◌, if◌then◌else◌, length, Option, Some, None}
use Rattle.reading_core.specs.declared.care.Care.{Care}
use Rattle.reading_core.specs.declared.care.Care.TheVariants.{Once}
use Rattle.reading_core.specs.declared.phase.Phase.{Phase}
use Rattle.reading_core.specs.declared.phase.Phase.TheVariants.{Settle, Sync, Address, Slash, Before, Value, Close, Refused, Ended}
use Rattle.reading_core.specs.Reader.{Reader, looks_twice}

-- the most that is sent for a word, its six digits, `/` and CR, and all of that twice where it may be looked at twice
abbrev pub most_of_word : Care → ℕ
most_of_word care = if looks_twice care then 16 else 8

-- the most that one life sends for n words: so much for a word, and one more for each mishap that it survives and for its
-- beginning, a word that was given up just before its last CR and the `Z` after it (this project's choice)
abbrev pub life_bound : Care → ℕ → ℕ → ℕ
life_bound care n patience = most_of_word care * n + (most_of_word care + 1) * (patience + 1)

-- the same where each word is looked at once: 8 for a word, and 9 for a mishap
abbrev pub reading_bound : ℕ → ℕ → ℕ
reading_bound n patience = life_bound Once n patience

-- the most that was sent for the word under way, with the `Z` before
abbrev pub used_in : Phase → ℕ
used_in Settle = 0
used_in (Sync place) = 1
used_in (Address place) = 1 + place
used_in Slash = 8
used_in Before = 8
used_in (Value value place) = 8
used_in (Close place) = 1
used_in (Refused place) = 8
used_in (Ended end) = 9

-- the most that was sent for an earlier look at it
abbrev pub used_before : Option ℕ → ℕ
used_before None = 0
used_before (Some number) = 8

-- the most that a life can have sent where it stands
abbrev pub used : Reader → ℕ
used r = used_in r.phase + used_before r.earlier + most_of_word r.manner.care * length r.values + (most_of_word r.manner.care + 1) * r.spent
