use Rattle.looking_law.proofs.Parts.{is_row}
use Rattle.looking_law.proofs.trying.one_line_is_a_row.Goals as goal

pub returns : goal.returns
returns c = is_row
