use Rattle.host_devices.specs.Devices.{line_told}
use Rattle.machine_probe.proofs.Left.{deposit_leaves}
use Rattle.machine_probe.proofs.PuttingBack.{put_back_by}
use Rattle.machine_probe.proofs.putting_back.put_back.Goals as goal

pub returns-clause-made : goal.returns-clause-made
returns-clause-made g c =
    let drive = c.drive-stop in
    put_back_by c.args.options c.args.deposit c.turns.result drive.result.0 drive.result.1 c.is_loaded.result (g.L.Line.told c.args.line.now) (g.L.Line.told drive.new.line) drive.new.keep.kept drive.ensures.driven.host drive.ensures.driven.same_plan drive.ensures.driven.end
    c.is_loaded.ensures c.turns.ensures drive.ensures.driven.session

pub returns-clause-left : goal.returns-clause-left
returns-clause-left g c =
    let drive = c.drive-stop in
    deposit_leaves (line_told g.L.Line c.args.line.now) (line_told g.L.Line drive.new.line) drive.result.1 c.is_loaded.result c.is_loaded.ensures drive.ensures.driven.counted drive.ensures.driven.named
