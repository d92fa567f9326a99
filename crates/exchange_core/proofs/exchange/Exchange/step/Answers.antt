use Rattle.std.proofs.Common.{ap, sym, subst, ◌∙◌}
use Rattle.exchange_core.specs.declared.exchange.Exchange.{Exchange}
use Rattle.exchange_core.specs.Exchange.{IsExchange, taken}
use Rattle.exchange_core.proofs.Steps.{RisesByAnswer, are_small, bound_kept, step_from, step_kept, step_rises}
use Rattle.exchange_core.proofs.exchange.Exchange.step.Goals as goal

pub returns-clause-next : goal.returns-clause-next
returns-clause-next c = c.taken.ensures.next ∙ ap (λ turn. (taken c.args.plan.now.image c.args.chunks.now c.args.self turn).next) c.turn-turn.ensures

pub returns-clause-rises : goal.returns-clause-rises
returns-clause-rises c =
    let P : Exchange → Type 0 = λ e. RisesByAnswer c.args.plan.now.image c.args.chunks.now c.args.self c.args.heard e in
    subst P (sym (returns-clause-next c)) (step_rises c.args.plan.now.image c.args.chunks.now c.args.self c.args.heard c.requires.kept)

pub returns-clause-kept : goal.returns-clause-kept
returns-clause-kept c =
    subst (IsExchange c.args.chunks.now) (sym (returns-clause-next c))
    (step_kept c.args.plan.now.image c.args.chunks.now c.args.self c.args.heard (are_small c.args.plan.now c.args.self.from c.args.chunks.now c.requires.chunks) c.requires.kept)

pub returns-clause-bound : goal.returns-clause-bound
returns-clause-bound c =
    bound_kept c.args.chunks.now c.taken.result.next (are_small c.args.plan.now c.args.self.from c.args.chunks.now c.requires.chunks) (returns-clause-kept c)

pub returns-clause-from : goal.returns-clause-from
returns-clause-from c =
    ap (λ e. e.from) (returns-clause-next c) ∙ step_from c.args.plan.now.image c.args.chunks.now c.args.self c.args.heard
