use Rattle.std.proofs.Common.{Some}
use Rattle.host_devices.specs.Devices.{line_told}
use Rattle.engine.specs.Keeping.{progress_calls}
use Rattle.engine.specs.Led.{scene}
use Rattle.load_engine.specs.Driving.{driving}
use Rattle.load_engine.proofs.Driven.{driven, driven_kept}
use Rattle.load_engine.proofs.driving.drive.Goals as goal

pub returns-clause-driven : goal.returns-clause-driven
returns-clause-driven g c =
    driven (progress_calls g.K.Keep) c.args.turns c.args.core c.lead-stop.new.host.core c.lead-stop.result (scene (line_told g.L.Line c.args.line.now) c.args.keep.now)
    (scene (line_told g.L.Line c.lead-stop.new.line) c.lead-stop.new.keep) c.end.ensures.kept c.lead-stop.ensures.kept c.lead-stop.ensures.led

pub returns-clause-kept : goal.returns-clause-kept
returns-clause-kept g c =
    driven_kept (progress_calls g.K.Keep) c.args.turns (driving c.args.core c.lead-stop.new.host.core (Some c.lead-stop.result)) (scene (line_told g.L.Line c.args.line.now) c.args.keep.now)
    (scene (line_told g.L.Line c.lead-stop.new.line) c.lead-stop.new.keep) c.end.ensures.kept c.lead-stop.ensures.led
