-- How long a stub is.
use Rattle.std.specs.Prelude.{◌≡◌, ℕ, List, length}
use Rattle.exchange_core.specs.declared.stretch.Stretch.{Stretch}
use Rattle.stub.specs.Words.{stub_words}

-- a stub of so many stretches has so many words, wherever it lies and whichever they are
abbrev pub IsSizeFor : ℕ → ℕ → Type 0
IsSizeFor count size = (place : ℕ) (stretches : List Stretch) → length stretches ≡ count → length (stub_words place stretches) ≡ size
