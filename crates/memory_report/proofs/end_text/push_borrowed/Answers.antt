use Rattle.std.proofs.Common.{append_assoc, refl}
use Rattle.memory_report.proofs.end_text.push_borrowed.Goals as goal

pub returns-in-Some-clause-items : goal.returns-in-Some-clause-items
returns-in-Some-clause-items c = rw (c.in-Some.is, c.push_bytes-in-Some-2.ensures.items, c.push_octal-in-Some.ensures.items, c.push_bytes-in-Some.ensures.items, c.push_octal.ensures.items, c.push_bytes.ensures.items) (simp append_assoc refl)
