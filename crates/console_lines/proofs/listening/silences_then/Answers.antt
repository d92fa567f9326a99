use Rattle.std.proofs.Common.{rules}
use Rattle.console_lines.proofs.listening.silences_then.Goals as goal

pub returns-in-Got-clause-count : goal.returns-in-Got-clause-count
returns-in-Got-clause-count c = search rules
