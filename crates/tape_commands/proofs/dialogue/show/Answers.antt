use Rattle.std.proofs.Common.{◌∙◌, inl, inr, refl}
use Rattle.std.proofs.lemmas.Result.{IfErr-weaker, IfOk-weaker}
use Rattle.input_files.proofs.Taken.{blames_none}
use Rattle.tape_commands.proofs.Untaken.{dialogue_on}
use Rattle.tape_commands.proofs.dialogue.show.Goals as goal

pub returns-in-Ok-clause-ok : goal.returns-in-Ok-clause-ok
returns-in-Ok-clause-ok g c =
    IfOk-weaker c.flushed.result _ _
    (λ status is inputs are.
    (c.in-Ok.end, dialogue_on inputs.held inputs.rests _ _ _ c.args.stage _ c.flushed.ensures.bytes (c.in-Ok.ensures.ok inputs.held inputs.rests are), is ∙ c.of_end.ensures))
    c.flushed.ensures.ok

pub returns-in-Ok-clause-err : goal.returns-in-Ok-clause-err
returns-in-Ok-clause-err g c =
    IfErr-weaker c.flushed.result _ _
    (λ failure is inputs are.
    inr (is, (_, (c.in-Ok.end, dialogue_on inputs.held inputs.rests _ _ _ c.args.stage _ c.flushed.ensures.bytes (c.in-Ok.ensures.ok inputs.held inputs.rests are), refl))))
    c.flushed.ensures.err

pub returns-in-Err-clause-err : goal.returns-in-Err-clause-err
returns-in-Err-clause-err g c inputs are = inl (record {
  fault = c.in-Err.fault;
  is_so = c.in-Err.ensures.err inputs.held inputs.rests are;
  is_called = blames_none c.in-Err.fault inputs.names _ _ c.in-Err.ensures.blames c.of.ensures;
})
