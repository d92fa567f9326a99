use Rattle.std.proofs.Common.{rules}
use Rattle.tape_image.proofs.word.Word.new.Goals as goal

pub invariant_of-result : goal.invariant_of-result
invariant_of-result c = search rules

pub returns-then-is_inside-clause-made : goal.returns-then-is_inside-clause-made
returns-then-is_inside-clause-made c = search rules
