use Rattle.std.proofs.lemmas.Result.{IfErr-weaker, IfOk-weaker}
use Rattle.input_files.specs.Inputs.{only_input}
use Rattle.tape_commands.proofs.check.check_input.Goals as goal

pub returns-clause-ok : goal.returns-clause-ok
returns-clause-ok g c = rw (← c.streams.view_is) (IfOk-weaker c.print_check.result _ _ (λ status of. of (only_input (g.R.Read.remaining c.streams.inside.input) (g.R.Read.remaining c.take_input.new.input)) c.in_ok-taken.ensures.ok) c.print_check.ensures.ok)

pub returns-clause-err : goal.returns-clause-err
returns-clause-err g c = rw (← c.streams.view_is) (IfErr-weaker c.print_check.result _ _ (λ failure of. of (only_input (g.R.Read.remaining c.streams.inside.input) (g.R.Read.remaining c.take_input.new.input)) c.in_ok-taken.ensures.ok) c.print_check.ensures.err)
