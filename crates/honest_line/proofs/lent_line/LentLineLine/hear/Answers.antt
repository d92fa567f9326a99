use Rattle.std.proofs.Common.{subst, sym, rules}
use Rattle.honest_line.specs.LineTable.{hear_refusal}
use Rattle.honest_line.specs.Lent.{HasMovedOn}
use Rattle.honest_line.proofs.Lendings.{lent_heard}
use Rattle.honest_line.proofs.lent_line.LentLineLine.hear.Goals as goal

pub invariant_of-self : goal.invariant_of-self
invariant_of-self g c =
    subst (HasMovedOn g.E.Opening.line) (sym c.hear.ensures.next) (lent_heard g.E.Opening.line c.self.inside.line (hear_refusal c.self.inside.line) c.self.invariant)

pub returns-clause-heard : goal.returns-clause-heard
returns-clause-heard g c = search rules

pub returns-clause-not_heard : goal.returns-clause-not_heard
returns-clause-not_heard g c = search rules

pub returns-clause-counted : goal.returns-clause-counted
returns-clause-counted g c = search rules
