-- What is typed on a line that loses nothing, from the words, the machine's memory and the start alone.
use Rattle.std.specs.Prelude.{ℕ, ◌==◌, ◌&&◌, not, Bool, if◌then◌else◌, List, [], ◌∷◌, ◌++◌, Option, Some, None}
use Rattle.octal.specs.Octal.{octal_text}
use Rattle.tape_image.specs.Word.{WordValue, merged}
use Rattle.odt_machine.specs.Machine.{word_at}
use Rattle.host_core.specs.Console.{carriage_return, go, resynchronise_of, slash}

-- a visit begins with the address and `/`, and CR ends it: one that stores nothing, and one that stores a value
abbrev pub look_keys : WordValue → List ℕ
look_keys w = octal_text w.address ++ slash ∷ carriage_return ∷ []

abbrev pub deposit_keys : WordValue → ℕ → List ℕ
deposit_keys w value = octal_text w.address ++ slash ∷ octal_text value ++ carriage_return ∷ []

-- a careful host looks first, and once more than a plain one, at a word that stands, and at each of which the tape gives half
abbrev pub looks_first : Bool → WordValue → ℕ → Bool
looks_first careful w old = careful && not (w.mask == 0o177777 && not (merged w old == old))

-- a word that stands is only looked at; another is deposited, and looked at again
abbrev pub word_keys : Bool → WordValue → ℕ → List ℕ
word_keys careful w old =
    (if looks_first careful w old then look_keys w else [])
    ++ (if merged w old == old then look_keys w else deposit_keys w (merged w old) ++ look_keys w)

-- the words one after another, each by what memory holds at its address
abbrev pub words_keys : Bool → List WordValue → List ℕ → List ℕ
words_keys careful [] memory = []
words_keys careful (w ∷ words) memory = word_keys careful w (word_at memory w.address) ++ words_keys careful words memory

-- the start address and `G`, where there is a start
abbrev pub start_keys : Option ℕ → List ℕ
start_keys None = []
start_keys (Some start) = octal_text start ++ go ∷ []

-- the clean text: nothing where there is nothing to load and no start, else the key that resynchronises, the words, and the start
abbrev pub clean_text : Bool → List WordValue → List ℕ → Option ℕ → List ℕ
clean_text careful [] memory None = []
clean_text careful words memory start = resynchronise_of careful ∷ words_keys careful words memory ++ start_keys start
