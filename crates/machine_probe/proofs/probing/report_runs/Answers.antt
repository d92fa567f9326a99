use Rattle.std.proofs.Common.{arith}
use Rattle.host_devices.specs.Devices.{line_told}
use Rattle.machine_probe.proofs.Faults.{on_error}
use Rattle.machine_probe.proofs.Reports.{report_from}
use Rattle.machine_probe.proofs.probing.report_runs.Goals as goal

pub returns-clause-report : goal.returns-clause-report
returns-clause-report g c =
    report_from c.args.options (line_told g.L.Line c.args.line.now) (line_told g.L.Line c.make_runs.new.line) g.E.FirstTold.told c.in_ok-findings.findings c.notes.result.now c.pace.result c.push_report.new.text.items c.push_report.result
    c.requires.address (omega arith) c.requires.fresh c.requires.opening c.in_ok-findings.ensures.made c.in_ok-findings.ensures.left c.notes.ensures c.push_report.ensures.text c.push_report.ensures.end

pub returns-in_err-findings-clause-wanting : goal.returns-in_err-findings-clause-wanting
returns-in_err-findings-clause-wanting g c = on_error c.from_residual.result _ c.in_err-findings.ensures.wanting
