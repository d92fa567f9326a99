use Rattle.std.proofs.Common.{inl}
use Rattle.console_lines.specs.Console.{ConsoleTold, console_told}
use Rattle.machine_probe.proofs.Reports.{some_fault, some_reported}
use Rattle.request_values.specs.Change.{Change, ◌⇒◌}
use Rattle.requests.specs.Moment.{call_for}
use Rattle.requests.specs.Probing.{probe_options}
use Rattle.requests.proofs.Looked.{probed, unprobed}
use Rattle.requests.proofs.probing.probe_over.Goals as goal

pub returns-in-Ok : goal.returns-in-Ok
returns-in-Ok g c =
    let request = c.args.request in
    let tells = console_told g.C.Consoles g.W.Write (call_for request.look) in
    let console : Change ConsoleTold = tells c.args.consoles.now c.args.out.now ⇒ tells c.probe.new.consoles c.probe.new.out in
    let end = c.in-Ok.end in
    let reported = some_reported g.C.Line.Line (probe_options request) console end c.in-Ok.ensures.ok in
    record {
      ok = probed request console end reported c.after_probe.result c.after_probe.ensures;
      err = unprobed request console end reported c.after_probe.result c.after_probe.ensures;
    }

pub returns-in-Err-clause-err : goal.returns-in-Err-clause-err
returns-in-Err-clause-err g c =
    let request = c.args.request in
    let tells = console_told g.C.Consoles g.W.Write (call_for request.look) in
    let console : Change ConsoleTold = tells c.args.consoles.now c.args.out.now ⇒ tells c.probe.new.consoles c.probe.new.out in
    let fault = c.in-Err.fault in
    inl (record {
      fault = fault;
      is_so = some_fault g.C.Line.Line (probe_options request) console fault c.in-Err.ensures.err;
      is_called = c.failure.ensures;
    })
