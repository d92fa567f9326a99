use Rattle.std.proofs.Common.{subst, rules}
use Rattle.host_core.specs.Host.{IsHost}
use Rattle.host_core.proofs.Lives.{is_silent}
use Rattle.host_core.proofs.host.HostCore.progress.Goals as goal

pub returns-clause-silent : goal.returns-clause-silent
returns-clause-silent c = is_silent c.args.self.now (subst IsHost c.self.view_is c.self.invariant)

pub returns-clause-going : goal.returns-clause-going
returns-clause-going c = search rules
