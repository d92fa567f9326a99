use Rattle.disk_law.proofs.Lives.{beginnings_are_stops}
use Rattle.disk_law.proofs.beginnings_are_stops.Goals as goal

pub returns : goal.returns
returns c = beginnings_are_stops
