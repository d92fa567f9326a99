-- What is told so far is the command with the arguments so far.
use Rattle.std.proofs.Common.{◌≡◌, map, take}
use Rattle.clap.specs.Words.{app_of}
use Rattle.command_line.specs.Commands.{shape_with}
use Rattle.command_line.proofs.Told.{argument_rule}
use Rattle.command_line.proofs.commands.command_told.Given as goal

abbrev pub invariant-loop-argument : goal.invariant-loop-argument
invariant-loop-argument l = (app_of l.command).top ≡ shape_with l.fn.known.word.now (map argument_rule (take l.argument-index l.fn.known.arguments.now))
