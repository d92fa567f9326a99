-- The numbers so far are those of the fields so far.
use Rattle.std.proofs.Common.{take}
use Rattle.std.specs.List.{AllZip}
use Rattle.tape_making.specs.Words.{IsNumber, fields}
use Rattle.tape_making.proofs.number.numbers_in.Given as goal

abbrev pub invariant-loop-field : goal.invariant-loop-field
invariant-loop-field l = AllZip IsNumber (take l.field-index (fields l.text)) l.numbers.items
