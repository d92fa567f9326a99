-- What holds of a host over everything that it may ever hear.
use Rattle.std.specs.Prelude.{◌≡◌, ◌≢◌, ℕ, ◌+◌, ◌≤◌, List, [], ◌∷◌, ◌++◌, length, map, option_to_list}
use Rattle.std.specs.List.{Contains}
use Rattle.octal.specs.Octal.{octal_text}
use Rattle.tape_image.specs.Word.{WordValue, Stands}
use Rattle.host_core.specs.declared.heard.Heard.{Heard}
use Rattle.host_core.specs.declared.heard.Heard.TheVariants.{Got}
use Rattle.host_core.specs.Console.{go, space}
use Rattle.host_core.specs.Core.{Core, start_of, word_under_way}
use Rattle.host_core.specs.Bound.{character_bound}
use Rattle.host_core.specs.PhaseTable.{move}

-- the core that a list of heard things makes
abbrev pub led : Core → List Heard → Core
led core [] = core
led core (heard ∷ more) = led (move core heard).next more

-- the characters that answer a list of heard things
abbrev pub replay : Core → List Heard → List ℕ
replay core [] = []
replay core (heard ∷ more) = option_to_list (move core heard).key ++ replay (move core heard).next more

-- whatever is heard, this life sends no more characters than the bound, those that it has sent included
abbrev pub KeepsBound : Core → Type 0
KeepsBound core = (heard : List Heard) → core.sent + length (replay core heard) ≤ character_bound core.careful (length core.plan.words) core.patience

-- whatever is heard, nothing is sent
abbrev pub IsSilent : Core → Type 0
IsSilent core = (heard : List Heard) → replay core heard ≡ []

-- these keys end with the whole start address and `G`
abbrev pub EndsWithStart : ℕ → List ℕ → Type 0
EndsWithStart start typed = (before : List ℕ) × (typed ≡ before ++ octal_text start ++ go ∷ [])

-- whatever is heard, `G` is sent only right after the six digits of the start address, with every word
-- verified, and nothing is sent after it
abbrev pub StartsOnlyWhole : Core → Type 0
StartsOnlyWhole core =
    (heard : List Heard) → Contains (replay core heard) go →
    EndsWithStart (start_of core) (replay core heard) × ((led core heard).verified ≡ length core.plan.words)

-- the last that was heard are the six octal digits of a number and a space, and the word stands in that number
abbrev pub HasRead : WordValue → List Heard → Type 0
HasRead word heard = (value : ℕ) × (before : List Heard) × (heard ≡ before ++ map Got (octal_text value ++ space ∷ [])) × Stands word value

-- whatever is heard, one more word is verified only where it has just been read and stands
abbrev pub VerifiesOnlyRead : Core → Type 0
VerifiesOnlyRead core =
    (heard : List Heard) (last : Heard) → (move (led core heard) last).next.verified ≢ (led core heard).verified →
    HasRead (word_under_way (led core heard)) (heard ++ last ∷ [])
