use Rattle.std.proofs.Common.{refl}
use Rattle.machine_memory.proofs.BusLeads.{deposit_led}
use Rattle.machine_memory.proofs.bus_steps.lead_deposit.Goals as goal

pub returns : goal.returns
returns g c options address number of =
    let told = g.L.Line.told in
    let drive = c.drive-stop in
    deposit_led options address number _ c.args.deposit drive.result.0 drive.result.1 (told c.args.line.now) (told drive.new.line) drive.new.keep.kept
    of refl drive.ensures.driven.end drive.ensures.driven.session
