use Rattle.std.proofs.Common.{◌≡◌, Some, sym, subst}
use Rattle.host_core.specs.Console.{go}
use Rattle.host_core.specs.Core.{Core}
use Rattle.host_core.specs.Host.{IsHost}
use Rattle.host_core.specs.Life.{core_of}
use Rattle.host_core.specs.Steps.{IsMarking}
use Rattle.host_core.proofs.Marks.{go_marks}
use Rattle.host_core.proofs.Turns.{kept, within_bound}
use Rattle.host_core.proofs.host.HostCore.step.Goals as goal

pub taken-key-requires : goal.taken-key-requires
taken-key-requires c = rw c.turn-turn.ensures (kept c.args.self.now c.args.heard (subst IsHost c.self.view_is c.self.invariant))

pub invariant_of-self : goal.invariant_of-self
invariant_of-self c =
    let P : Core → Type 0 = λ core. IsHost (core_of core.careful core.plan core.patience c.taken-key.result.life) in
    subst P (sym c.self.view_is)
    (subst IsHost (sym c.taken-key.ensures.next)
    (rw c.turn-turn.ensures (kept c.args.self.now c.args.heard (subst IsHost c.self.view_is c.self.invariant))))

pub returns-clause-kept : goal.returns-clause-kept
returns-clause-kept c = invariant_of-self c

pub returns-clause-bound : goal.returns-clause-bound
returns-clause-bound c = within_bound _ (invariant_of-self c)

pub returns-clause-start : goal.returns-clause-start
returns-clause-start c =
    let P : Core → Type 0 = λ core. c.taken-key.result.key ≡ Some go → IsMarking c.args.self.now (core_of core.careful core.plan core.patience c.taken-key.result.life) c.taken-key.result.key in
    subst P (sym c.self.view_is)
    (rw (c.taken-key.ensures.next, c.taken-key.ensures.key, c.turn-turn.ensures) (go_marks c.args.self.now c.args.heard (subst IsHost c.self.view_is c.self.invariant)))
