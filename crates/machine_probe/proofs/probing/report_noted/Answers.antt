use Rattle.std.proofs.Common.{IfOk, OnErr, sym, subst}
use Rattle.host_devices.specs.Devices.{line_told}
use Rattle.request_values.specs.Change.{◌⇒◌}
use Rattle.machine_probe.specs.Follow.{IsBrokenOff}
use Rattle.machine_probe.specs.Probe.{IsReport}
use Rattle.machine_probe.specs.Runs.{OnLine}
use Rattle.machine_probe.proofs.probing.report_noted.Goals as goal

pub returns-clause-report : goal.returns-clause-report
returns-clause-report g c =
    let outcome = c.report_runs-outcome.result in
    let text = c.report_runs-outcome.new.report.items in
    subst (λ last. IfOk outcome (IsReport c.args.options (line_told g.L.Line c.args.line ⇒ line_told g.L.Line last) text)) (sym c.into_line.ensures)
    (subst (λ first. IfOk outcome (IsReport c.args.options (line_told g.L.Line first ⇒ line_told g.L.Line c.report_runs-outcome.new.line) text)) c.new-noted.ensures c.report_runs-outcome.ensures.report)

pub returns-clause-wanting : goal.returns-clause-wanting
returns-clause-wanting g c =
    let outcome = c.report_runs-outcome.result in
    subst (λ last. OnErr outcome (OnLine (IsBrokenOff c.args.options) (g.L.Line.told c.args.line) (g.L.Line.told last))) (sym c.into_line.ensures)
    (subst (λ first. OnErr outcome (OnLine (IsBrokenOff c.args.options) (g.L.Line.told first) (g.L.Line.told c.report_runs-outcome.new.line))) c.new-noted.ensures c.report_runs-outcome.ensures.wanting)
