use Rattle.std.proofs.Common.{refl}
use Rattle.machine_probe.specs.declared.probe_fault.ProbeFault.TheVariants.{WriteOutput}
use Rattle.console_lines.specs.Console.{console_told}
use Rattle.request_values.specs.Change.{◌⇒◌}
use Rattle.machine_probe.specs.Probe.{OverLine}
use Rattle.machine_probe.specs.ProbeFault.{IsProbeFault}
use Rattle.machine_probe.proofs.Faults.{error_is, no_value}
use Rattle.machine_probe.proofs.Reports.{cut_of, reported_of, unreported_is}
use Rattle.console_lines.specs.Path.{call_of}
use Rattle.machine_probe.proofs.probing.probe.Goals as goal

pub returns-in_err-end-clause-ok : goal.returns-in_err-end-clause-ok
returns-in_err-end-clause-ok g c = no_value c.from_residual.result _ _ c.from_residual.ensures.1

pub returns-in_err-end-clause-err : goal.returns-in_err-end-clause-err
returns-in_err-end-clause-err g c =
    let before = console_told g.C.Consoles g.W.Write (call_of c.args.dial) c.args.consoles.now c.args.out.now in
    let after = console_told g.C.Consoles g.W.Write (call_of c.args.dial) c.gather.new.consoles c.args.out.now in
    error_is c.from_residual.result c.in_err-end.field-0.0 (IsProbeFault (OverLine g.C.Line.Line) c.args.options (before ⇒ after))
    c.from_residual.ensures.1 (unreported_is g.C.Line.Line c.args.options before after c.in_err-end.field-0.0 refl c.in_err-end.ensures.fault)

pub returns-in_err-write_and_flush-clause-ok : goal.returns-in_err-write_and_flush-clause-ok
returns-in_err-write_and_flush-clause-ok g c = no_value c.from_residual-in_err-write_and_flush.result _ _ c.from_residual-in_err-write_and_flush.ensures.1

pub returns-in_err-write_and_flush-clause-err : goal.returns-in_err-write_and_flush-clause-err
returns-in_err-write_and_flush-clause-err g c =
    let before = console_told g.C.Consoles g.W.Write (call_of c.args.dial) c.args.consoles.now c.args.out.now in
    let after = console_told g.C.Consoles g.W.Write (call_of c.args.dial) c.gather.new.consoles c.write_and_flush.new.out in
    error_is c.from_residual-in_err-write_and_flush.result WriteOutput (IsProbeFault (OverLine g.C.Line.Line) c.args.options (before ⇒ after))
    c.from_residual-in_err-write_and_flush.ensures.1
    (cut_of g.C.Line.Line c.args.options before after c.gather.new.report.items c.deref.result.now c.in_ok-end.end c.in_ok-end.ensures.asked c.in_ok-end.ensures.report c.deref.ensures.0 c.in_err-write_and_flush.ensures.err)

pub returns-clause-ok : goal.returns-clause-ok
returns-clause-ok g c =
    reported_of g.C.Line.Line c.args.options
    (console_told g.C.Consoles g.W.Write (call_of c.args.dial) c.args.consoles.now c.args.out.now) (console_told g.C.Consoles g.W.Write (call_of c.args.dial) c.gather.new.consoles c.write_and_flush.new.out)
    c.gather.new.report.items c.deref.result.now c.in_ok-end.end c.in_ok-end.ensures.asked c.in_ok-end.ensures.report c.deref.ensures.0 c.in_ok-write_and_flush.ensures.ok
