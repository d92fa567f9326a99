-- The keys that cannot do harm, whatever the host knows.
use Rattle.std.specs.Prelude.{ℕ, ◌≡◌, ◌<◌, ◌⊎◌, Bool, true, false, List, [], ◌∷◌, length, unwrap_or, ⊤}
use Rattle.octal.specs.Octal.{is_digit}
use Rattle.host_core.specs.Console.{carriage_return, go, resynchronise_of, slash}
use Rattle.host_core.specs.Core.{word_nr}
use Rattle.odt_machine.specs.declared.mode.Mode.{Mode}
use Rattle.odt_machine.specs.declared.mode.Mode.TheVariants.{Prompt, Number, Opened, Typing, Running}
use Rattle.line_world.specs.Site.{Ground, Lies, site_in, wanted, number_mode}
use Rattle.line_world.specs.Pending.{IsStopped}
use Rattle.line_world.specs.Wire.{is_harmless}

-- at most five digits stand
abbrev pub TakesDigit : Mode → Type 0
TakesDigit Prompt = ⊤
TakesDigit (Number v n) = n < 6
TakesDigit (Opened a) = ⊤
TakesDigit (Typing a v n) = n < 6
TakesDigit (Running p) = ⊥

-- the address of a word of the plan stands, whole
abbrev pub TakesSlash : Ground → Mode → Type 0
TakesSlash g (Number v n) = (i : ℕ) × (i < length g.plan.words) × (n ≡ 6) × (v ≡ (word_nr g.plan.words i).address)
TakesSlash g mode = ⊥

-- a word is open, and no new value is typed or the whole value that a word of the plan wants there
abbrev pub TakesReturn : Ground → Mode → Type 0
TakesReturn g (Opened a) = ⊤
TakesReturn g (Typing a v n) =
    (i : ℕ) × (i < length g.plan.words) × Lies (site_in g i) × (n ≡ 6) × (a ≡ (site_in g i).word.address) × (v ≡ wanted (site_in g i))
TakesReturn g mode = ⊥

-- a lawful key before the mark
abbrev pub LawfulBefore : Ground → ℕ → Type 0
LawfulBefore g c =
    ((is_digit c ≡ true) × TakesDigit g.machine.mode)
    ⊎ (((c ≡ slash) × TakesSlash g g.machine.mode)
    ⊎ (((c ≡ carriage_return) × TakesReturn g g.machine.mode) ⊎ ((c ≡ resynchronise_of g.careful) × IsStopped g.machine.mode)))

-- a lawful key: under the mark `G` alone, after the whole start
abbrev pub LawfulKey : Bool → Ground → ℕ → Type 0
LawfulKey true g c = (c ≡ go) × (g.machine.mode ≡ number_mode (unwrap_or g.plan.start 0) 6)
LawfulKey false g c = LawfulBefore g c

-- with a careful host the line may have changed the key
abbrev pub LawfulOr : Bool → Ground → ℕ → Type 0
LawfulOr false g c = LawfulKey g.going g c
LawfulOr true g c = LawfulKey g.going g c ⊎ (is_harmless c ≡ true)

-- a key under way is lawful
abbrev pub Lawful : Ground → List ℕ → Type 0
Lawful g [] = ⊤
Lawful g (c ∷ down) = LawfulOr g.careful g c
