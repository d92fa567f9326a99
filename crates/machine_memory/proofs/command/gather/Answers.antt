use Rattle.std.proofs.Common.{IfOk, OnErr, [], ◌∷◌, arith, inl, inr, refl, sym, subst}
use Rattle.host_devices.specs.Devices.{line_told}
use Rattle.host_devices.specs.Told.{Gains}
use Rattle.console_lines.specs.Dialling.{asked_once}
use Rattle.console_lines.proofs.Asked.{in_vain}
use Rattle.request_values.specs.Change.{◌⇒◌}
use Rattle.machine_probe.specs.declared.probe_fault.ProbeFault.TheVariants.{Connect, Memory}
use Rattle.machine_memory.specs.Course.{Standing}
use Rattle.machine_probe.specs.Probe.{OverLine}
use Rattle.machine_probe.specs.ProbeFault.{way_told}
use Rattle.machine_memory.specs.MemoryFault.{IsUnreported}
use Rattle.machine_memory.specs.Runs.{IsCut, IsRow}
use Rattle.machine_memory.proofs.Reports.{report_is}
use Rattle.machine_probe.specs.Runs.{OnLine}
use Rattle.machine_memory.proofs.Faults.{error_is, no_ok, no_value}
use Rattle.console_lines.specs.Path.{call_of}
use Rattle.machine_memory.proofs.command.gather.Goals as goal

pub returns-in_err-course-clause-report : goal.returns-in_err-course-clause-report
returns-in_err-course-clause-report g c = no_value c.from_residual.result _ _ c.from_residual.ensures.1

pub returns-in_err-course-clause-asked : goal.returns-in_err-course-clause-asked
returns-in_err-course-clause-asked g c = no_ok c.from_residual.result _ _ c.from_residual.ensures.1

pub returns-in_err-course-clause-fault : goal.returns-in_err-course-clause-fault
returns-in_err-course-clause-fault g c =
    let told = way_told g.C.Consoles (call_of c.args.dial) c.args.consoles.now in
    error_is c.from_residual.result Memory (IsUnreported (OverLine g.C.Line.Line) c.args.options (told ⇒ told)) c.from_residual.ensures.1 (inl (record { not_asked = refl; no_line = refl }))

pub returns-in_err-line-clause-report : goal.returns-in_err-line-clause-report
returns-in_err-line-clause-report g c = no_value c.from_residual-in_err-line.result _ _ c.from_residual-in_err-line.ensures.1

pub returns-in_err-line-clause-asked : goal.returns-in_err-line-clause-asked
returns-in_err-line-clause-asked g c = no_ok c.from_residual-in_err-line.result _ _ c.from_residual-in_err-line.ensures.1

pub returns-in_err-line-clause-fault : goal.returns-in_err-line-clause-fault
returns-in_err-line-clause-fault g c =
    error_is c.from_residual-in_err-line.result Connect (IsUnreported (OverLine g.C.Line.Line) c.args.options (way_told g.C.Consoles (call_of c.args.dial) c.args.consoles.now ⇒ way_told g.C.Consoles (call_of c.args.dial) c.reach.new.self))
    c.from_residual-in_err-line.ensures.1 (in_vain _ _ _ c.in_err-line.field-0.0 c.in_err-line.ensures.asked, c.in_err-line.ensures.lines)

pub returns-in-Ok-clause-report : goal.returns-in-Ok-clause-report
returns-in-Ok-clause-report g c =
    let told = g.C.Line.Line.told in
    let last = c.make_steps-outcome.new.line in (
      c.in_ok-line.line,
      last,
      c.in_ok-line.ensures.fresh,
      subst (λ lines. Gains lines (g.C.Consoles.lines c.let_go.new.self) (line_told g.C.Line.Line last ∷ [])) c.in_ok-line.ensures.lines c.let_go.ensures.lines,
      report_is c.args.options (told c.in_ok-line.line) (told last) c.in_ok-course.course c.in-Ok.course c.put_report.new.report.items c.put_report.result (omega arith) c.requires.asked c.in_ok-course.ensures c.in_ok-line.ensures.fresh.nothing_said
          (subst (λ outcome. IfOk outcome (λ course. OnLine (IsRow c.args.options c.in_ok-course.course course) (told c.in_ok-line.line) (told last))) c.in-Ok.is c.make_steps-outcome.ensures.made)
          c.put_report.ensures.text c.put_report.ensures.end,
    )

pub returns-in-Err-clause-fault : goal.returns-in-Err-clause-fault
returns-in-Err-clause-fault g c =
    let told = g.C.Line.Line.told in
    let last = c.make_steps-outcome.new.line in
    inr (
      c.in_ok-line.line,
      last,
      c.in_ok-line.ensures.fresh,
      subst (λ lines. Gains lines (g.C.Consoles.lines c.let_go.new.self) (line_told g.C.Line.Line last ∷ [])) c.in_ok-line.ensures.lines c.let_go.ensures.lines,
      record {
        asked = subst (λ asked. Gains (g.C.Consoles.asked c.args.consoles.now) asked (asked_once (call_of c.args.dial))) (sym c.let_go.ensures.asked) c.in_ok-line.ensures.asked;
        fresh = c.in_ok-line.ensures.fresh.nothing_said;
        runs = subst (λ (first : Standing). OnLine (IsCut c.args.options first) (told c.in_ok-line.line) (told last)) c.in_ok-course.ensures
            (subst (λ outcome. OnErr outcome (OnLine (IsCut c.args.options c.in_ok-course.course) (told c.in_ok-line.line) (told last))) c.in-Err.is c.make_steps-outcome.ensures.cut);
      },
    )
