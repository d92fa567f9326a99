-- The keys that a careful host lets the console meet.
use Rattle.std.specs.Prelude.{◌≡◌, ℕ, ◌%◌, ◌<◌, ◌⊎◌, IsTrue}
use Rattle.octal.specs.Octal.{is_digit}
use Rattle.odt_machine.specs.declared.mode.Mode.{Mode}
use Rattle.odt_machine.specs.declared.mode.Mode.TheVariants.{Prompt, Number, Opened, Typing, Running}
use Rattle.odt_machine.specs.Character.{carriage_return, slash, go, resynchronise}

-- the described keys, those alone that a careful host lets the console meet (this project's
-- choice): a digit of a number of at most six; `/` or `G` after exactly six digits, `G` at an even
-- address; a return on an open word, untouched or with six digits typed; `Z` unless it runs
abbrev pub IsDescribed : Mode → ℕ → Type 0
IsDescribed Prompt c = IsTrue (is_digit c) ⊎ (c ≡ resynchronise)
IsDescribed (Number v n) c = (IsTrue (is_digit c) × (n < 6)) ⊎ (((c ≡ slash) × (n ≡ 6)) ⊎ (((c ≡ go) × (n ≡ 6) × (v % 2 ≡ 0)) ⊎ (c ≡ resynchronise)))
IsDescribed (Opened a) c = IsTrue (is_digit c) ⊎ ((c ≡ carriage_return) ⊎ (c ≡ resynchronise))
IsDescribed (Typing a v n) c = (IsTrue (is_digit c) × (n < 6)) ⊎ (((c ≡ carriage_return) × (n ≡ 6)) ⊎ (c ≡ resynchronise))
IsDescribed (Running p) c = ⊥
