-- What is known so far is what was known before, with the commands so far.
use Rattle.std.proofs.Common.{◌≡◌, fold, take}
use Rattle.clap.specs.Words.{app_of}
use Rattle.command_line.specs.Commands.{with_command}
use Rattle.command_line.proofs.commands.with_commands.Given as goal

abbrev pub invariant-loop-command : goal.invariant-loop-command
invariant-loop-command l = app_of l.all ≡ fold with_command (app_of l.fn.known) (take l.command-index l.fn.commands)
