use Rattle.host_devices.specs.Devices.{line_told}
use Rattle.machine_probe.proofs.Joins.{trial_is}
use Rattle.machine_probe.proofs.Left.{trial_leaves}
use Rattle.machine_probe.proofs.runs.try_number.Goals as goal

pub returns-clause-made : goal.returns-clause-made
returns-clause-made g c =
    trial_is c.args.options c.args.old c.new-trial.result c.conduct-stop.result.0 c.conduct-stop.result.1 c.turns.result c.trial_findings_of.result (g.L.Line.told c.args.line.now) (g.L.Line.told c.conduct-stop.new.line)
    c.new-trial.ensures.begun c.turns.ensures c.conduct-stop.ensures.tried.turns.session c.conduct-stop.ensures.tried.turns.end c.trial_findings_of.ensures

pub returns-clause-left : goal.returns-clause-left
returns-clause-left g c =
    trial_leaves (line_told g.L.Line c.args.line.now) (line_told g.L.Line c.conduct-stop.new.line) c.conduct-stop.result.0 c.conduct-stop.result.1 c.trial_findings_of.result
    c.trial_findings_of.ensures c.conduct-stop.ensures.tried.turns.counted c.conduct-stop.ensures.tried.turns.named
