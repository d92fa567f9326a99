use Rattle.std.proofs.Common.{rules}
use Rattle.host_core.proofs.host.HostCore.spent.Goals as goal

pub returns-clause-value : goal.returns-clause-value
returns-clause-value c = search rules
