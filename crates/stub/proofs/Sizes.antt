-- How long a stub is.
use Rattle.std.proofs.Common.{◌≡◌, ℕ, ◌+◌, ◌*◌, List, [], ◌∷◌, length, refl, arith, length-append}
use Rattle.exchange_core.specs.declared.stretch.Stretch.{Stretch}
use Rattle.stub.specs.Words.{code, table, stub_words}

pub table_size : (stretches : List Stretch) → length (table stretches) ≡ 2 * length stretches + 1
table_size [] = refl
table_size (stretch ∷ stretches) = let rest = table_size stretches in omega arith

pub stub_size : (count place : ℕ) (stretches : List Stretch) → length stretches ≡ count → length (stub_words place stretches) ≡ 63 + 2 * count + 1
stub_size count place stretches are = let rest = table_size stretches in omega (arith, length-append (code place) (table stretches))
