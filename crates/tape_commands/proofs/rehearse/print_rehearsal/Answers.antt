use Rattle.std.proofs.Common.{inl, inr}
use Rattle.std.proofs.lemmas.Result.{IfErr-weaker, IfOk-weaker}
use Rattle.input_files.proofs.Taken.{blames_none}
use Rattle.tape_commands.proofs.Untaken.{rehearsed_on}
use Rattle.tape_commands.proofs.rehearse.print_rehearsal.Goals as goal

pub returns-in-Ok-clause-ok : goal.returns-in-Ok-clause-ok
returns-in-Ok-clause-ok g c =
    IfOk-weaker c.flushed.result _ _
    (λ status is. (
      λ inputs are. rehearsed_on _ inputs _ _ _ c.flushed.ensures.bytes (record {
        text = c.in-Ok.ensures.ok.0;
        rehearsed = c.in-Ok.ensures.ok.1 inputs.held inputs.rests are;
        written = c.in-Ok.ensures.ok.2;
      }),
      is,
    ))
    c.flushed.ensures.ok

pub returns-in-Ok-clause-err : goal.returns-in-Ok-clause-err
returns-in-Ok-clause-err g c =
    IfErr-weaker c.flushed.result _ _
    (λ failure is inputs are. inr (
      is,
      rehearsed_on _ inputs _ _ _ c.flushed.ensures.bytes (record {
        text = c.in-Ok.ensures.ok.0;
        rehearsed = c.in-Ok.ensures.ok.1 inputs.held inputs.rests are;
        written = c.in-Ok.ensures.ok.2;
      }),
    ))
    c.flushed.ensures.err

pub returns-in-Err-clause-err : goal.returns-in-Err-clause-err
returns-in-Err-clause-err g c inputs are = inl (record {
  fault = c.in-Err.fault;
  is_so = c.in-Err.ensures.err inputs.held inputs.rests are;
  is_called = blames_none c.in-Err.fault inputs.names _ _ c.in-Err.ensures.blames c.of.ensures;
})
