use Rattle.std.proofs.Common.{sym, ◌∙◌, subst}
use Rattle.host_core.specs.Host.{IsHost}
use Rattle.host_core.specs.Laws.{StartsOnlyWhole, VerifiesOnlyRead}
use Rattle.host_core.proofs.Readings.{verifies_only_read}
use Rattle.host_core.proofs.Starts.{starts_only_whole}
use Rattle.host_core.proofs.Turns.{begun_by_kept, accepted}
use Rattle.host_core.proofs.host.HostCore.with_care.Goals as goal

pub invariant_of-result : goal.invariant_of-result
invariant_of-result c =
    let fine = accepted c.args.plan c.args.progress.verified c.args.progress.going (sym c.refusal.ensures.refusal ∙ c.in_default.is) in
    subst IsHost (sym (c.begun-life.ensures c.args.careful c.args.patience))
    (begun_by_kept c.args.careful c.args.plan c.args.progress.verified c.args.progress.going c.args.patience c.refusal.ensures.plan fine.0 c.ranges.patience.fits fine.1)

pub returns-clause-begun : goal.returns-clause-begun
returns-clause-begun c = c.begun-life.ensures c.args.careful c.args.patience

pub returns-clause-kept : goal.returns-clause-kept
returns-clause-kept c = invariant_of-result c

pub returns-clause-whole_start : goal.returns-clause-whole_start
returns-clause-whole_start c = subst StartsOnlyWhole (sym (c.begun-life.ensures c.args.careful c.args.patience)) (starts_only_whole c.args.careful c.args.plan c.args.progress.verified c.args.progress.going c.args.patience (subst IsHost (c.begun-life.ensures c.args.careful c.args.patience) (invariant_of-result c)))

pub returns-clause-read_first : goal.returns-clause-read_first
returns-clause-read_first c =
    subst VerifiesOnlyRead (sym (c.begun-life.ensures c.args.careful c.args.patience))
    (verifies_only_read c.args.careful c.args.plan c.args.progress.verified c.args.progress.going c.args.patience (subst IsHost (c.begun-life.ensures c.args.careful c.args.patience) (invariant_of-result c)))
