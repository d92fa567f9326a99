use Rattle.std.proofs.Common.{◌∙◌, inl, inr, ap, refl, ⊎_elim}
use Rattle.endings.specs.declared.command_fault.CommandFault.TheVariants.{Memory}
use Rattle.tape_image.specs.Plan.{plan_of_all}
use Rattle.input_files.specs.Taking.{AreTakenOf, FailsToTake}
use Rattle.input_files.proofs.Errors.{error_is}
use Rattle.input_files.proofs.Taken.{tapes_more}
use Rattle.endings.specs.declared.failure.Failure.TheVariants.{NoMemory}
use Rattle.requests.specs.Planning.{IsPlanOf}
use Rattle.requests.proofs.planning.plan_tapes.Goals as goal

pub returns-in-Ok-clause-ok : goal.returns-in-Ok-clause-ok
returns-in-Ok-clause-ok g c =
    tapes_more c.args.names.now _ _ _ (AreTakenOf c.in_ok-taken.taken) (λ inputs. IsPlanOf inputs c.in-Ok.plan)
    (λ inputs are. record { texts = are.texts; taken = are.taken; plan_is = c.in-Ok.ensures.plan ∙ ap plan_of_all (c.deref.ensures.value ∙ are.tapes_are) })
    refl refl c.in_ok-taken.ensures.ok

pub returns-clause-err : goal.returns-clause-err
returns-clause-err g c =
    inr (
      tapes_more c.args.names.now _ _ _ (AreTakenOf c.in_ok-taken.taken) (λ inputs. FailsToTake inputs NoMemory)
          (λ inputs are. record { fault = Memory; is_so = tt; is_called = refl })
          refl refl c.in_ok-taken.ensures.ok,
      c.take.ensures.same_out,
    )

pub returns-in_err-taken-clause-err : goal.returns-in_err-taken-clause-err
returns-in_err-taken-clause-err g c =
    error_is c.from_residual.result c.in_err-taken.field-0.0 _ c.from_residual.ensures.1
    (⊎_elim (λ unopened. inl unopened) (λ untaken. inr (untaken, c.take.ensures.same_out)) c.in_err-taken.ensures.err)
