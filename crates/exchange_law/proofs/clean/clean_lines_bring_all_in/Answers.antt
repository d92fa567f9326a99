use Rattle.exchange_law.proofs.Running.{clean_lines_bring_all_in}
use Rattle.exchange_law.proofs.clean.clean_lines_bring_all_in.Goals as goal

pub returns : goal.returns
returns c = clean_lines_bring_all_in
