use Rattle.disk_law.proofs.Lives.{appends_are_stops}
use Rattle.disk_law.proofs.appends_are_stops.Goals as goal

pub returns : goal.returns
returns c = appends_are_stops
