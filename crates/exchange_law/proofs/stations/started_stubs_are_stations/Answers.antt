use Rattle.exchange_law.proofs.StationStarts.{started_are_stations}
use Rattle.exchange_law.proofs.stations.started_stubs_are_stations.Goals as goal

pub returns : goal.returns
returns c = started_are_stations
