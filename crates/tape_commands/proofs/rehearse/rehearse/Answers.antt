use Rattle.request_values.specs.Change.{◌⇒◌}
use Rattle.std.proofs.Common.{◌∙◌, None, inl, inr, ap, refl, codes}
use Rattle.std.proofs.lemmas.Result.{IfErr-weaker, IfOk-weaker}
use Rattle.endings.specs.Held.{Held}
use Rattle.input_files.specs.Intake.{intake}
use Rattle.input_files.specs.Source.{source_remaining}
use Rattle.input_files.proofs.Errors.{error_is}
use Rattle.input_files.proofs.Taken.{rehearsed_taken, not_rehearsed}
use Rattle.tape_commands.specs.Rehearsing.{IsRehearsalFailure, IsRehearsedInto}
use Rattle.tape_commands.proofs.Untaken.{called_without_script, rehearsal_untaken}
use Rattle.tape_commands.proofs.rehearse.rehearse.Goals as goal

pub returns-clause-ok : goal.returns-clause-ok
returns-clause-ok g c =
    IfOk-weaker c.print_rehearsal.result _ _
    (λ status of. record {
      rehearsed = rehearsed_taken c.args.rehearsal.now _ (intake (g.F.InputFiles.opened c.take_with_script.new.files) c.take_with_script.new.streams) _ c.in_ok-taken.taken (source_remaining g.F.File.Read.remaining c.in_ok-taken.script)
          (λ out script inputs. IsRehearsedInto script inputs out (g.W.Write.contents c.print_rehearsal.new.out))
          (g.W.Write.contents c.streams.inside.out) (ap (λ (held : Held). held.out) c.streams.view_is ∙ c.take_with_script.ensures.same_out)
          refl (ap (λ (held : Held). held.input) c.streams.view_is) c.in_ok-taken.ensures.ok of.0;
      status_is = of.1;
    })
    c.print_rehearsal.ensures.ok

pub returns-clause-err : goal.returns-clause-err
returns-clause-err g c =
    IfErr-weaker c.print_rehearsal.result _ _
    (λ failure of. inr (rehearsed_taken c.args.rehearsal.now _ (intake (g.F.InputFiles.opened c.take_with_script.new.files) c.take_with_script.new.streams) _ c.in_ok-taken.taken
    (source_remaining g.F.File.Read.remaining c.in_ok-taken.script)
    (λ out script inputs. IsRehearsalFailure c.args.rehearsal.now.script.now script inputs (out ⇒ g.W.Write.contents c.print_rehearsal.new.out) failure)
    (g.W.Write.contents c.streams.inside.out) (ap (λ (held : Held). held.out) c.streams.view_is ∙ c.take_with_script.ensures.same_out)
    refl (ap (λ (held : Held). held.input) c.streams.view_is) c.in_ok-taken.ensures.ok of))
    c.print_rehearsal.ensures.err

pub returns-in_err-taken-clause-err : goal.returns-in_err-taken-clause-err
returns-in_err-taken-clause-err g c =
    error_is c.from_residual.result c.in_err-taken.field-0.0 _ c.from_residual.ensures.1
    (not_rehearsed c.args.rehearsal.now _ _ _
    (λ script inputs. IsRehearsalFailure c.args.rehearsal.now.script.now script inputs (c.args.streams.now.out ⇒ c.take_with_script.new.streams.out) c.in_err-taken.field-0.0)
    (λ script inputs has. inl (record {
      fault = has.fault;
      is_so = rehearsal_untaken inputs.held inputs.rests _ _ script c.take_with_script.ensures.same_out has.fault has.is_so;
      is_called = called_without_script inputs.held inputs.rests None None has.fault inputs.names (codes "standard input") c.args.rehearsal.now.script.now _ has.is_so has.is_called;
    }))
    c.in_err-taken.ensures.err)
