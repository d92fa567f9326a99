use Rattle.load_record.proofs.FirstLines.{first_lead, lead_first}
use Rattle.load_record.proofs.law.first_lines.Goals as goal

pub returns : goal.returns
returns c = λ plan lines progress. (first_lead plan lines progress, lead_first plan lines progress)
