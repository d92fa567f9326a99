use Rattle.std.proofs.Common.{◌∙◌, IfOk, IfErr, inl, inr, refl, ap, sym, subst}
use Rattle.std.proofs.lemmas.Result.{IfOk-weaker, IfErr-weaker}
use Rattle.console_lines.specs.Path.{call_to}
use Rattle.endings.specs.Held.{Held}
use Rattle.input_files.proofs.Errors.{error_is}
use Rattle.input_files.specs.Intake.{intake}
use Rattle.request_values.specs.Change.{◌⇒◌}
use Rattle.requests.specs.Asked.{asked_of, system_told}
use Rattle.requests.specs.Moment.{intake_at, moment}
use Rattle.requests.specs.Planning.{IsPlanned}
use Rattle.requests.specs.Verifying.{IsVerifyFailure, IsVerifyOver}
use Rattle.requests.proofs.Consoles.{at_output}
use Rattle.requests.proofs.verifying.verify_tapes.Goals as goal

pub returns-in_err-plan-clause-err : goal.returns-in_err-plan-clause-err
returns-in_err-plan-clause-err g c =
    rw (← c.system.view_is) (error_is c.from_residual.result c.in_err-plan.field-0.0 _ c.from_residual.ensures.1 (inl (refl, c.in_err-plan.ensures.err)))

pub returns : goal.returns
returns g c =
    let inside = c.system.inside in
    let asked = g.K.Consoles.Consoles.asked in
    let lines = g.K.Consoles.Consoles.lines in
    let disk = g.K.Disk.Disk.asked inside.disk in
    let names = c.args.names.now in
    let look = c.args.look in
    let plan = c.in_ok-plan.plan in
    let opened' = g.K.Inputs.InputFiles.opened c.plan_tapes.new.inputs in
    let over = c.verify_over in
    let consoles' = over.new.consoles in
    let held : Held = record {
      input = g.R.Read.remaining c.streams.inside.input;
      out = g.W.Write.contents over.new.out;
      unread = g.W.Output.unread over.new.out;
      err = g.E.FaultOutput.said c.streams.inside.err;
    } in
    let before = moment g.K.Disk.Disk.holds (system_told (asked_of (g.K.Inputs.InputFiles.opened inside.inputs) disk (asked inside.consoles) (lines inside.consoles)) inside.disk) c.args.streams.now in
    let after = moment g.K.Disk.Disk.holds (system_told (asked_of opened' disk (asked consoles') (lines consoles')) inside.disk) held in
    let said = at_output (ap (λ (h : Held). h.out) c.streams.view_is ∙ c.in_ok-plan.ensures.same_out)
    (record { asked = asked inside.consoles; call = call_to look.line.now look.quiet_ms; lines = lines inside.consoles; out = held.out })
    (record { asked = asked consoles'; call = call_to look.line.now look.quiet_ms; lines = lines consoles'; out = held.out }) in
    let planned = subst (λ (h : Held). IsPlanned names (intake_at before) (intake opened' h) plan) (sym c.streams.view_is) c.in_ok-plan.ensures.ok in
    let planned' : IsPlanned names (intake_at before) (intake_at after) plan = record { held = planned.held; opened = planned.opened; is_so = planned.is_so } in
    rw (← c.system.view_is) (record {
      ok = IfOk-weaker over.result _ _ (λ status is. record { plan = plan; planned = planned'; verified = is; no_disk = refl })
          (said (λ x y. IfOk over.result (IsVerifyOver plan look (x ⇒ y))) over.ensures.ok);
      err = IfErr-weaker over.result _ _ (λ failure is. inr (record { plan = plan; planned = planned'; failed = is; no_disk = refl }))
          (said (λ x y. IfErr over.result (IsVerifyFailure plan look (x ⇒ y))) over.ensures.err);
      quiet = ap (λ (h : Held). h.err) c.streams.view_is ∙ c.plan_tapes.ensures.quiet;
    })
