use Rattle.looking_law.proofs.Again.{one_line}
use Rattle.looking_law.proofs.trying.one_line_finds_the_word_again.Goals as goal

pub returns : goal.returns
returns c = one_line
