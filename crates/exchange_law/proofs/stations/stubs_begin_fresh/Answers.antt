use Rattle.exchange_law.proofs.Lines.{begin_fresh}
use Rattle.exchange_law.proofs.stations.stubs_begin_fresh.Goals as goal

pub returns : goal.returns
returns c = begin_fresh
