use Rattle.std.proofs.lemmas.Result.{IfOk-weaker}
use Rattle.command_line.proofs.Told.{told_both}
use Rattle.command_line.proofs.commands.known_words.Goals as goal

pub returns : goal.returns
returns c =
    IfOk-weaker c.with_commands-2.result _ _
    (λ known is. told_both _ _ _ _ _ is c.in_ok-at_machines.ensures c.in_ok-bare.ensures c.machine_commands.ensures c.tape_commands.ensures)
    c.with_commands-2.ensures
