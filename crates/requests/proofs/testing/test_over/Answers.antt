use Rattle.std.proofs.Common.{inl, subst}
use Rattle.console_lines.specs.Console.{ConsoleTold, console_told}
use Rattle.machine_probe.specs.Probe.{OverLine}
use Rattle.machine_memory.specs.MemoryFault.{IsMemoryFault}
use Rattle.machine_memory.specs.Tested.{IsMemoryTested}
use Rattle.machine_memory.specs.declared.memory_options.MemoryOptions.{MemoryOptions}
use Rattle.machine_memory.proofs.Reports.{some_fault, some_tested}
use Rattle.request_values.specs.Change.{Change, ◌⇒◌}
use Rattle.requests.specs.Moment.{call_for}
use Rattle.requests.specs.Testing.{test_options}
use Rattle.requests.proofs.Looked.{tested, untested}
use Rattle.requests.proofs.testing.test_over.Goals as goal

pub returns-in-Ok : goal.returns-in-Ok
returns-in-Ok g c =
    let request = c.args.request in
    let tells = console_told g.C.Consoles g.W.Write (call_for request.look) in
    let console : Change ConsoleTold = tells c.args.consoles.now c.args.out.now ⇒ tells c.test_memory-tested.new.consoles c.test_memory-tested.new.out in
    let end = c.in-Ok.end in
    let reported = some_tested g.C.Line.Line (test_options request) console end
    (subst (λ (o : MemoryOptions). IsMemoryTested (OverLine g.C.Line.Line) o console end) c.test_options.ensures.value c.in-Ok.ensures.ok) in
    record {
      ok = tested request console end reported c.after_test.result c.after_test.ensures;
      err = untested request console end reported c.after_test.result c.after_test.ensures;
    }

pub returns-in-Err-clause-err : goal.returns-in-Err-clause-err
returns-in-Err-clause-err g c =
    let request = c.args.request in
    let tells = console_told g.C.Consoles g.W.Write (call_for request.look) in
    let console : Change ConsoleTold = tells c.args.consoles.now c.args.out.now ⇒ tells c.test_memory-tested.new.consoles c.test_memory-tested.new.out in
    let fault = c.in-Err.fault in
    inl (record {
      fault = fault;
      is_so = some_fault g.C.Line.Line (test_options request) console fault
          (subst (λ (o : MemoryOptions). IsMemoryFault (OverLine g.C.Line.Line) o console fault) c.test_options.ensures.value c.in-Err.ensures.err);
      is_called = c.failure.ensures;
    })
