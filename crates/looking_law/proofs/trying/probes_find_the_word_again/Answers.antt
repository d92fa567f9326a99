use Rattle.looking_law.proofs.Again.{find_again}
use Rattle.looking_law.proofs.trying.probes_find_the_word_again.Goals as goal

pub returns : goal.returns
returns c = find_again
