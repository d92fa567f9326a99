-- The bytes so far are 00.
use Rattle.std.proofs.Common.{take}
use Rattle.tape_shelf.specs.FoundPart.{IsBlank}
use Rattle.tape_shelf.proofs.found_part.is_blank.Given as goal

abbrev pub invariant-loop-byte : goal.invariant-loop-byte
invariant-loop-byte l = IsBlank (take l.byte-index l.text)
