use Rattle.std.proofs.Common.{subst, sym}
use Rattle.honest_line.specs.Lent.{HasMovedOn}
use Rattle.honest_line.proofs.Lendings.{lent_now}
use Rattle.honest_line.proofs.lent_line.LentLine.lend.Goals as goal

pub invariant_of-result : goal.invariant_of-result
invariant_of-result g c = subst (HasMovedOn g.E.Opening.line) (sym c.requires) (lent_now g.E.Opening.line)
