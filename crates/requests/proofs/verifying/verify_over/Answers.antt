use Rattle.std.proofs.Common.{inl}
use Rattle.console_lines.specs.Console.{ConsoleTold, console_told}
use Rattle.request_values.specs.Change.{Change, ◌⇒◌}
use Rattle.requests.specs.Moment.{call_for}
use Rattle.requests.proofs.Looked.{unverified, verified}
use Rattle.requests.proofs.verifying.verify_over.Goals as goal

pub returns-in-Ok : goal.returns-in-Ok
returns-in-Ok g c =
    let look = c.args.look in
    let tells = console_told g.C.Consoles g.W.Write (call_for look) in
    let console : Change ConsoleTold = tells c.args.consoles.now c.args.out.now ⇒ tells c.verify-verified.new.consoles c.verify-verified.new.out in
    record {
      ok = verified c.args.plan.now look console c.in-Ok.end c.in-Ok.ensures.ok c.after_verify.result c.after_verify.ensures;
      err = unverified c.args.plan.now look console c.in-Ok.end c.in-Ok.ensures.ok c.after_verify.result c.after_verify.ensures;
    }

pub returns-in-Err-clause-err : goal.returns-in-Err-clause-err
returns-in-Err-clause-err g c = inl (record { fault = c.in-Err.fault; is_so = c.in-Err.ensures.err; is_called = c.failure.ensures })
