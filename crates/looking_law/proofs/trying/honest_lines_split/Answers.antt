use Rattle.looking_law.proofs.Splits.{lines_split}
use Rattle.looking_law.proofs.trying.honest_lines_split.Goals as goal

pub returns : goal.returns
returns c = lines_split
