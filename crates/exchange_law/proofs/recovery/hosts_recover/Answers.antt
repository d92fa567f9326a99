use Rattle.exchange_law.proofs.Recovering.{hosts_recover}
use Rattle.exchange_law.proofs.recovery.hosts_recover.Goals as goal

pub returns : goal.returns
returns c = hosts_recover
