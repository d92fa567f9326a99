-- Which stub stands at an address, read out of memory.
use Rattle.std.specs.Prelude.{◌≡◌, ◌↔◌, ℕ, zero, suc, ◌+◌, ◌==◌, nat_lt, nat_le, Bool, true, not, ◌&&◌, ◌||◌}
use Rattle.std.specs.Prelude.{if◌then◌else◌, List, [], ◌∷◌, length, Option, Some, None}
use Rattle.tape_image.specs.Memory.{top_of}
use Rattle.odt_machine.specs.Machine.{is_word, word_at}
use Rattle.exchange_core.specs.declared.stretch.Stretch.{Stretch}
use Rattle.stub.specs.Words.{code_bytes, code}
use Rattle.stub.specs.Place.{StubStands, stub_end}

-- memory has these words, one after another from an address on
abbrev pub has_words : List ℕ → ℕ → List ℕ → Bool
has_words memory a [] = true
has_words memory a (word ∷ words) = is_word memory a && (word_at memory a == word) && has_words memory (a + 2) words

-- a stretch before others, where there are such
abbrev pub put_before : Stretch → Option (List Stretch) → Option (List Stretch)
put_before stretch None = None
put_before stretch (Some stretches) = Some (stretch ∷ stretches)

-- the stretches of a table that lies at an address, fewer than so many: 0 ends it, another word is the end of a stretch, whose start follows
abbrev pub table_at : ℕ → List ℕ → ℕ → Option (List Stretch)
table_at zero memory a = None
table_at (suc n) memory a =
    if not (is_word memory a) then None
    else if word_at memory a == 0 then Some []
    else if not (is_word memory (a + 2)) then None
    else put_before (record { from = word_at memory (a + 2); to = word_at memory a }) (table_at n memory (a + 4))

-- a stretch has a byte, lies below the top, and touches none of the bytes from `place` up to `until`
abbrev pub fits : ℕ → ℕ → ℕ → Stretch → Bool
fits place until top stretch = nat_lt stretch.from stretch.to && nat_le stretch.to top && (nat_le stretch.to place || nat_le until stretch.from)

abbrev pub all_fit : ℕ → ℕ → ℕ → List Stretch → Bool
all_fit place until top [] = true
all_fit place until top (stretch ∷ stretches) = fits place until top stretch && all_fit place until top stretches

-- these stretches, where they fit the stub
abbrev pub fitting : List ℕ → ℕ → Option (List Stretch) → Option (List Stretch)
fitting memory place None = None
fitting memory place (Some stretches) = if all_fit place (stub_end place stretches) (top_of memory) stretches then Some stretches else None

-- the stretches of the stub that stands at an address, where one does: the code is there, and behind it a table of stretches that fit
abbrev pub stub_at : List ℕ → ℕ → Option (List Stretch)
stub_at memory place =
    if has_words memory place (code place) then fitting memory place (table_at (length memory) memory (place + code_bytes)) else None

-- these and no others: what is read out of a memory is the stub that stands there
abbrev pub StubsAreFound : Type 0
StubsAreFound = (memory : List ℕ) (place : ℕ) (stretches : List Stretch) → stub_at memory place ≡ Some stretches ↔ StubStands memory place stretches
