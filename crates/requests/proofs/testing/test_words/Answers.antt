use Rattle.std.proofs.Common.{refl, ap, IfOk, IfErr}
use Rattle.std.proofs.lemmas.Result.{IfOk-weaker, IfErr-weaker}
use Rattle.console_lines.specs.Path.{call_to}
use Rattle.endings.specs.Held.{Held}
use Rattle.request_values.specs.Change.{◌⇒◌}
use Rattle.requests.specs.Moment.{TakesNoInput, moment}
use Rattle.requests.specs.Asked.{asked_of, system_told}
use Rattle.requests.specs.Testing.{IsTestFailure, IsTestOver}
use Rattle.requests.proofs.Consoles.{at_output}
use Rattle.requests.proofs.testing.test_words.Goals as goal

pub returns : goal.returns
returns g c =
    let inside = c.system.inside in
    let asked = g.K.Consoles.Consoles.asked in
    let lines = g.K.Consoles.Consoles.lines in
    let opened = g.K.Inputs.InputFiles.opened inside.inputs in
    let disk = g.K.Disk.Disk.asked inside.disk in
    let over = c.test_over in
    let consoles' = over.new.consoles in
    let held : Held = record {
      input = g.R.Read.remaining c.streams.inside.input;
      out = g.W.Write.contents over.new.out;
      unread = g.W.Output.unread over.new.out;
      err = g.E.FaultOutput.said c.streams.inside.err;
    } in
    let before = moment g.K.Disk.Disk.holds (system_told (asked_of opened disk (asked inside.consoles) (lines inside.consoles)) inside.disk) c.args.streams.now in
    let after = moment g.K.Disk.Disk.holds (system_told (asked_of opened disk (asked consoles') (lines consoles')) inside.disk) held in
    let request = c.args.request in
    let said = at_output (ap (λ (h : Held). h.out) c.streams.view_is)
    (record { asked = asked inside.consoles; call = call_to request.look.line.now request.look.quiet_ms; lines = lines inside.consoles; out = held.out })
    (record { asked = asked consoles'; call = call_to request.look.line.now request.look.quiet_ms; lines = lines consoles'; out = held.out }) in
    let no_input : TakesNoInput (before ⇒ after) = record { no_file = refl; nothing_read = ap (λ (h : Held). h.input) c.streams.view_is } in
    rw (← c.system.view_is) (record {
      ok = IfOk-weaker over.result _ _ (λ status is. record { tested = is; no_disk = refl; no_input = no_input })
          (said (λ x y. IfOk over.result (IsTestOver request (x ⇒ y))) over.ensures.ok);
      err = IfErr-weaker over.result _ _ (λ failure is. record { failed = is; no_disk = refl; no_input = no_input })
          (said (λ x y. IfErr over.result (IsTestFailure request (x ⇒ y))) over.ensures.err);
      quiet = ap (λ (h : Held). h.err) c.streams.view_is;
    })
