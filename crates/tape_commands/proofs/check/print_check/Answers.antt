use Rattle.std.proofs.Common.{inl, inr}
use Rattle.std.proofs.lemmas.Result.{IfErr-weaker, IfOk-weaker}
use Rattle.input_files.proofs.Taken.{blames_none}
use Rattle.tape_commands.proofs.Untaken.{checked_on}
use Rattle.tape_commands.proofs.check.print_check.Goals as goal

pub returns-in-Ok-clause-ok : goal.returns-in-Ok-clause-ok
returns-in-Ok-clause-ok g c =
    IfOk-weaker c.flushed.result _ _
    (λ status is inputs are. (checked_on inputs.held inputs.rests _ _ c.args.options.blocks _ c.flushed.ensures.bytes (c.in-Ok.ensures.ok inputs.held inputs.rests are), is))
    c.flushed.ensures.ok

pub returns-in-Ok-clause-err : goal.returns-in-Ok-clause-err
returns-in-Ok-clause-err g c =
    IfErr-weaker c.flushed.result _ _
    (λ failure is inputs are. inr (is, checked_on inputs.held inputs.rests _ _ c.args.options.blocks _ c.flushed.ensures.bytes (c.in-Ok.ensures.ok inputs.held inputs.rests are)))
    c.flushed.ensures.err

pub returns-in-Err-clause-err : goal.returns-in-Err-clause-err
returns-in-Err-clause-err g c inputs are = inl (record {
  fault = c.in-Err.fault;
  is_so = c.in-Err.ensures.err inputs.held inputs.rests are;
  is_called = blames_none c.in-Err.fault inputs.names _ _ c.in-Err.ensures.blames c.of.ensures;
})
