use Rattle.std.proofs.Common.{append_assoc, refl}
use Rattle.memory_report.proofs.picture.push_gap.Goals as goal

pub returns-in-Some-clause-items : goal.returns-in-Some-clause-items
returns-in-Some-clause-items c = rw (c.in-Some.is, c.push_octal.ensures.items, c.push_bytes.ensures.items) (simp append_assoc refl)
