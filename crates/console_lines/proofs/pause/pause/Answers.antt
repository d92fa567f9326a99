use Rattle.std.proofs.Common.{rules}
use Rattle.console_lines.proofs.pause.pause.Goals as goal

pub returns-in-Ok-Ok-clause-most : goal.returns-in-Ok-Ok-clause-most
returns-in-Ok-Ok-clause-most g c = search rules

pub returns-in_default-clause-least : goal.returns-in_default-clause-least
returns-in_default-clause-least g c = search rules

pub returns-in_default-2-clause-least : goal.returns-in_default-2-clause-least
returns-in_default-2-clause-least g c = search rules
