use Rattle.std.proofs.Common.{rules}
use Rattle.host_core.proofs.host.HostCore.is_fresh.Goals as goal

pub returns-then-sent-eq0-clause-fresh : goal.returns-then-sent-eq0-clause-fresh
returns-then-sent-eq0-clause-fresh c = search rules
