use Rattle.std.proofs.Common.{rules}
use Rattle.host_core.proofs.host.HostCore.hears.Goals as goal

pub returns-in-Settle : goal.returns-in-Settle
returns-in-Settle c = search rules
