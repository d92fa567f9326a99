use Rattle.std.proofs.Common.{ap, fold, ◌∙◌}
use Rattle.std.proofs.lemmas.List.{take_all}
use Rattle.clap.specs.Words.{app_of}
use Rattle.command_line.specs.Commands.{with_command}
use Rattle.command_line.proofs.Told.{told_command}
use Rattle.command_line.proofs.commands.with_commands.Goals as goal

pub loop-command-preserved : goal.loop-command-preserved
loop-command-preserved c = told_command _ _ _ _ _ _ _ c.loop-command-test.true c.in_ok-all.ensures c.in_ok-command_told.ensures c.loop-command.invariant

pub returns : goal.returns
returns c = record { told = c.loop-command.invariant ∙ ap (fold with_command (app_of c.args.known)) (take_all c.loop-command.command-index _ c.loop-command-test.false) }
