-- What a look at one word costs on a line that loses nothing, worked out: once, and twice.
use Rattle.std.specs.Prelude.{◌≡◌, ℕ, ◌∷◌, ◌++◌, [], List, None, length, map, refl}
use Rattle.host_core.specs.declared.heard.Heard.TheVariants.{Got}
use Rattle.reading_core.specs.declared.care.Care.TheVariants.{Twice}
use Rattle.reading_core.specs.declared.phase.Phase.TheVariants.{Address}
use Rattle.reading_core.specs.Reader.{Manner, Reader, once}
use Rattle.looking_law.specs.Belief.{dialogue}

-- a host that has just typed the first digit of 001000, and is to look at 001002 then, in a manner
abbrev pub reading_first : Manner → Reader
reading_first manner =
    record { addresses = 0o1000 ∷ 0o1002 ∷ []; manner = manner; values = []; patience = 0; spent = 0; foreign = 0; sent = 2; earlier = None; phase = Address 1 }

-- one that looks at each word once
abbrev pub at_first_word : Reader
at_first_word = reading_first once

-- the console echoes `001000/`, answers `012700 `, and then CR, LF and `@`
abbrev pub answer_of_a_word : List ℕ
answer_of_a_word = 48 ∷ 48 ∷ 49 ∷ 48 ∷ 48 ∷ 48 ∷ 47 ∷ 48 ∷ 49 ∷ 50 ∷ 55 ∷ 48 ∷ 48 ∷ 32 ∷ 13 ∷ 10 ∷ 64 ∷ []

-- 25 characters pass until the first digit of the next word: 17 are heard, 8 sent
pub a_word_costs_25 : length (dialogue at_first_word (map Got answer_of_a_word)) ≡ 25
a_word_costs_25 = refl

-- and twice as many where it is looked at twice
abbrev pub at_first_word_twice : Reader
at_first_word_twice = reading_first (record { care = Twice; expected = [] })

pub two_looks_cost_50 : length (dialogue at_first_word_twice (map Got (answer_of_a_word ++ answer_of_a_word))) ≡ 50
two_looks_cost_50 = refl
