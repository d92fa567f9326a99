use Rattle.std.proofs.Common.{◌≡◌, take}
use Rattle.std.specs.Prelude.{All, IsTrue, fold}
use Rattle.octal.specs.Octal.{is_digit, pushed}
use Rattle.octal.proofs.text.read_oct6.Given as goal

abbrev pub invariant-loop-character : goal.invariant-loop-character
invariant-loop-character l = record {
  value : l.word ≡ fold pushed 0 (take l.character-index l.text);
  digits : All (λ c. IsTrue (is_digit c)) (take l.character-index l.text);
}
