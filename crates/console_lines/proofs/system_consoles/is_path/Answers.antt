use Rattle.std.proofs.Common.{rules}
use Rattle.console_lines.proofs.system_consoles.is_path.Goals as goal

pub returns : goal.returns
returns c = search rules
