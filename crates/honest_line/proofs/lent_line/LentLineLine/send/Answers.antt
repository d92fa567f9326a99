use Rattle.std.proofs.Common.{subst, sym}
use Rattle.honest_line.specs.LineTable.{send_refusal}
use Rattle.honest_line.specs.Lent.{HasMovedOn}
use Rattle.honest_line.proofs.Lendings.{lent_sent}
use Rattle.honest_line.proofs.lent_line.LentLineLine.send.Goals as goal

pub invariant_of-self : goal.invariant_of-self
invariant_of-self g c =
    subst (HasMovedOn g.E.Opening.line) (sym c.send.ensures.next) (lent_sent g.E.Opening.line c.self.inside.line c.args.key (send_refusal c.self.inside.line) c.self.invariant)
