-- Where a stub stands.
use Rattle.std.specs.Prelude.{◌≡◌, ℕ, ◌+◌, ◌*◌, ◌<◌, ◌≤◌, ◌⊎◌, true, List, [], ◌∷◌, length, get_or, ⊤}
use Rattle.tape_image.specs.Memory.{top_of}
use Rattle.odt_machine.specs.Machine.{is_word, word_at}
use Rattle.exchange_core.specs.declared.stretch.Stretch.{Stretch}
use Rattle.stub.specs.Words.{stub_words}

-- memory has these words, one after another from an address on
abbrev pub AreThere : List ℕ → ℕ → List ℕ → Type 0
AreThere memory place words =
    (i : ℕ) → i < length words → (is_word memory (place + 2 * i) ≡ true) × (word_at memory (place + 2 * i) ≡ get_or words i 0)

-- a stretch has a byte, lies below the top, and touches none of the stub's bytes, which lie from `place` up to `until`
pub record StretchFits (place until top : ℕ) (stretch : Stretch) : Type 0 where
  pub rising : stretch.from < stretch.to
  pub below : stretch.to ≤ top
  pub apart : (stretch.to ≤ place) ⊎ (until ≤ stretch.from)

-- all of them do
abbrev pub StretchesFit : ℕ → ℕ → ℕ → List Stretch → Type 0
StretchesFit place until top [] = ⊤
StretchesFit place until top (stretch ∷ stretches) = StretchFits place until top stretch × StretchesFit place until top stretches

-- the first address behind the stub
abbrev pub stub_end : ℕ → List Stretch → ℕ
stub_end place stretches = place + 2 * length (stub_words place stretches)

-- a stub with these stretches stands at an address: memory has its words, and its stretches fit
pub record StubStands (memory : List ℕ) (place : ℕ) (stretches : List Stretch) : Type 0 where
  pub words : AreThere memory place (stub_words place stretches)
  pub fit : StretchesFit place (stub_end place stretches) (top_of memory) stretches
