use Rattle.std.proofs.lemmas.Result.{IfOk-weaker}
use Rattle.clap.specs.Matches.{found_of}
use Rattle.clap.specs.Walk.{rows_of}
use Rattle.command_line.proofs.Entered.{entered}
use Rattle.command_line.proofs.parsing.request_of.Goals as goal

pub returns-in-Some : goal.returns-in-Some
returns-in-Some c =
    let command = c.in-Some.command.now in
    let found = found_of c.in-Some.found.now in
    IfOk-weaker c.wanted_of.result _ _
    (λ wanted says. (command, found, entered c.args.matches.now command (rows_of found) c.in-Some.ensures.name c.in-Some.ensures.rows, says))
    c.wanted_of.ensures
