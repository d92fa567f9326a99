use Rattle.command_line.proofs.Told.{told_argument}
use Rattle.command_line.proofs.commands.command_told.Goals as goal

pub loop-argument-preserved : goal.loop-argument-preserved
loop-argument-preserved c =
    told_argument c.args.known.word.now _ _ _ _ _ _ c.loop-argument-test.true
    c.in_ok-command.ensures c.in_ok-argument_told.ensures.own c.in_ok-argument_told.ensures.rule c.loop-argument.invariant
