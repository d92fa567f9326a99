use Rattle.exchange_law.proofs.Mirrors.{without_stub}
use Rattle.exchange_law.proofs.recovery.stations_without_stub_are_machines.Goals as goal

pub returns : goal.returns
returns c = without_stub
