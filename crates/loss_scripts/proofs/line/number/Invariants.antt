use Rattle.std.proofs.Common.{◌≡◌, take}
use Rattle.std.specs.Str.Parse.{AllDigits, digits_value}
use Rattle.loss_scripts.proofs.line.number.Given as goal

-- the characters so far are digits, and the value is their number
abbrev pub invariant-loop-character : goal.invariant-loop-character
invariant-loop-character l = record {
  digits : AllDigits 10 (take l.character-index l.text);
  value : l.value ≡ digits_value 10 (take l.character-index l.text);
}
