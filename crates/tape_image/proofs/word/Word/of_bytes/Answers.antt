use Rattle.std.proofs.Common.{rules}
use Rattle.tape_image.proofs.word.Word.of_bytes.Goals as goal

pub returns : goal.returns
returns c = search rules
