use Rattle.std.proofs.Common.{rules}
use Rattle.console_lines.proofs.pause.most_looks.Goals as goal

pub returns : goal.returns
returns c = search rules
