use Rattle.request_values.specs.Change.{◌⇒◌}
use Rattle.std.proofs.Common.{◌∙◌, inl, inr, ap, refl}
use Rattle.std.proofs.lemmas.Result.{IfErr-weaker, IfOk-weaker}
use Rattle.endings.specs.Held.{Held}
use Rattle.input_files.specs.Intake.{intake}
use Rattle.input_files.proofs.Errors.{error_is}
use Rattle.input_files.proofs.Taken.{names_taken, untaken}
use Rattle.tape_commands.specs.Checking.{IsCheckFailure, IsCheckedTo}
use Rattle.tape_commands.proofs.Untaken.{check_untaken}
use Rattle.tape_commands.proofs.check.check_tapes.Goals as goal

pub returns-clause-ok : goal.returns-clause-ok
returns-clause-ok g c =
    IfOk-weaker c.print_check.result _ _
    (λ status of. names_taken c.args.names.now _ (intake (g.F.InputFiles.opened c.take.new.files) c.take.new.streams) _ c.in_ok-taken.taken
    (λ out inputs. IsCheckedTo c.args.options.blocks inputs (out ⇒ g.W.Write.contents c.print_check.new.out) status)
    (g.W.Write.contents c.streams.inside.out) (ap (λ (held : Held). held.out) c.streams.view_is ∙ c.take.ensures.same_out)
    refl (ap (λ (held : Held). held.input) c.streams.view_is) c.in_ok-taken.ensures.ok of)
    c.print_check.ensures.ok

pub returns-clause-err : goal.returns-clause-err
returns-clause-err g c =
    IfErr-weaker c.print_check.result _ _
    (λ failure of. inr (names_taken c.args.names.now _ (intake (g.F.InputFiles.opened c.take.new.files) c.take.new.streams) _ c.in_ok-taken.taken
    (λ out inputs. IsCheckFailure c.args.options.blocks inputs (out ⇒ g.W.Write.contents c.print_check.new.out) failure)
    (g.W.Write.contents c.streams.inside.out) (ap (λ (held : Held). held.out) c.streams.view_is ∙ c.take.ensures.same_out)
    refl (ap (λ (held : Held). held.input) c.streams.view_is) c.in_ok-taken.ensures.ok of))
    c.print_check.ensures.err

pub returns-in_err-taken-clause-err : goal.returns-in_err-taken-clause-err
returns-in_err-taken-clause-err g c =
    error_is c.from_residual.result c.in_err-taken.field-0.0 _ c.from_residual.ensures.1
    (untaken c.args.names.now _ _ _ (λ inputs. IsCheckFailure c.args.options.blocks inputs (c.args.streams.now.out ⇒ c.take.new.streams.out) c.in_err-taken.field-0.0)
    (λ inputs has. inl (record { fault = has.fault; is_so = check_untaken inputs.held inputs.rests _ _ c.args.options.blocks c.take.ensures.same_out has.fault has.is_so; is_called = has.is_called }))
    c.in_err-taken.ensures.err)
