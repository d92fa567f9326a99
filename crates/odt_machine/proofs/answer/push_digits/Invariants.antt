use Rattle.std.proofs.Common.{◌≡◌, ◌++◌, take}
use Rattle.odt_machine.proofs.answer.push_digits.Given as goal

abbrev pub invariant-loop-digit : goal.invariant-loop-digit
invariant-loop-digit l = l.answer.items ≡ l.fn.answer.items ++ take l.digit-index l.digit-items
