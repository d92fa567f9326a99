use Rattle.std.proofs.Common.{rules}
use Rattle.console_lines.proofs.terminal.AnyTerminal.look.Goals as goal

pub returns-in-WouldBlock-clause-found : goal.returns-in-WouldBlock-clause-found
returns-in-WouldBlock-clause-found g c = search rules

pub returns-in_default : goal.returns-in_default
returns-in_default g c = search rules

pub returns-in-Ok-clause-found : goal.returns-in-Ok-clause-found
returns-in-Ok-clause-found g c = search rules
