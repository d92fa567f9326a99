use Rattle.exchange_law.proofs.Lines.{are_stations}
use Rattle.exchange_law.proofs.stations.stubs_are_stations.Goals as goal

pub returns : goal.returns
returns c = are_stations
