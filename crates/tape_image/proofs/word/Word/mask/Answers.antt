use Rattle.std.proofs.Common.{rules}
use Rattle.tape_image.proofs.word.Word.mask.Goals as goal

pub returns-clause-value : goal.returns-clause-value
returns-clause-value c = search rules
