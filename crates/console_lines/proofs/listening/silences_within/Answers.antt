use Rattle.std.proofs.Common.{rules}
use Rattle.console_lines.proofs.listening.silences_within.Goals as goal

pub returns-clause-enough : goal.returns-clause-enough
returns-clause-enough c = search rules
