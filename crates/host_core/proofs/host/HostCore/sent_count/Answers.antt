use Rattle.std.proofs.Common.{◌≤◌, subst, rules}
use Rattle.host_core.specs.Bound.{largest_bound}
use Rattle.host_core.specs.Core.{Core}
use Rattle.host_core.specs.Host.{IsHost}
use Rattle.host_core.proofs.Lives.{keeps_bound, within_largest}
use Rattle.host_core.proofs.host.HostCore.sent_count.Goals as goal

pub returns-clause-later : goal.returns-clause-later
returns-clause-later c = keeps_bound c.args.self.now (subst IsHost c.self.view_is c.self.invariant)

pub returns-clause-most : goal.returns-clause-most
returns-clause-most c = subst (λ (core : Core). c.self.inside.life.sent ≤ largest_bound core.careful) c.self.view_is (within_largest _ c.self.invariant)

pub returns-clause-value : goal.returns-clause-value
returns-clause-value c = search rules
