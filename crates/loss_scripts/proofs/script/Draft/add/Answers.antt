use Rattle.std.proofs.Common.{refl, rules}
use Rattle.loss_scripts.proofs.Drafts.{joined}
use Rattle.loss_scripts.proofs.script.Draft.add.Goals as goal

pub returns-in-Blank : goal.returns-in-Blank
returns-in-Blank c before holds is =
    rw c.in-Blank.is (tt, joined before _ c.args.number c.args.self.now c.args.self.now is holds refl refl refl refl refl refl)

pub returns-in_ok-push-in-Step : goal.returns-in_ok-push-in-Step
returns-in_ok-push-in-Step c before holds is =
    let next = record c.args.self.now { steps = c.push.new.self } in
    rw c.in-Step.is (tt, joined before _ c.args.number c.args.self.now next is holds refl refl refl refl refl c.in_ok-push-in-Step.ensures.items)

pub returns-then-not-is_empty : goal.returns-then-not-is_empty
returns-then-not-is_empty c = search rules
