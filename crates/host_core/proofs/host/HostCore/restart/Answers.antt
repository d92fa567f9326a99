use Rattle.std.proofs.Common.{◌≡◌, min, subst, sym}
use Rattle.host_core.specs.Core.{Core, begun_by, restarted}
use Rattle.host_core.specs.Life.{core_of}
use Rattle.host_core.specs.Host.{IsHost}
use Rattle.host_core.specs.Laws.{StartsOnlyWhole, VerifiesOnlyRead}
use Rattle.host_core.proofs.Readings.{verifies_only_read}
use Rattle.host_core.proofs.Starts.{starts_only_whole}
use Rattle.host_core.proofs.Turns.{restart_kept}
use Rattle.host_core.proofs.host.HostCore.restart.Goals as goal

pub returns-clause-begun : goal.returns-clause-begun
returns-clause-begun c =
    let P : Core → Type 0 = λ core. core_of c.self.inside.careful c.self.inside.plan c.self.inside.patience c.begun-self-inside.result ≡ begun_by core.careful core.plan (min c.args.kept c.args.self.now.verified) c.args.self.now.going core.patience in
    subst P c.self.view_is
    (rw (c.progress-verified.ensures.verified, c.progress-verified.ensures.going) at (rw c.min.ensures at (c.begun-self-inside.ensures c.self.inside.careful c.self.inside.patience)))

pub invariant_of-self : goal.invariant_of-self
invariant_of-self c =
    subst IsHost (sym (returns-clause-begun c)) (restart_kept c.args.self.now c.args.kept (subst IsHost c.self.view_is c.self.invariant))

pub returns-clause-kept : goal.returns-clause-kept
returns-clause-kept c = invariant_of-self c

kept_now : (c : goal.After-self-1) → IsHost (restarted c.args.self.now c.args.kept)
kept_now c = subst IsHost (returns-clause-begun c) (invariant_of-self c)

pub returns-clause-whole_start : goal.returns-clause-whole_start
returns-clause-whole_start c =
    subst StartsOnlyWhole (sym (returns-clause-begun c)) (starts_only_whole c.args.self.now.careful c.args.self.now.plan (min c.args.kept c.args.self.now.verified) c.args.self.now.going c.args.self.now.patience (kept_now c))

pub returns-clause-read_first : goal.returns-clause-read_first
returns-clause-read_first c =
    subst VerifiesOnlyRead (sym (returns-clause-begun c)) (verifies_only_read c.args.self.now.careful c.args.self.now.plan (min c.args.kept c.args.self.now.verified) c.args.self.now.going c.args.self.now.patience (kept_now c))
