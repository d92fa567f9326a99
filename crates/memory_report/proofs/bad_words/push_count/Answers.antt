use Rattle.std.proofs.Common.{append_assoc, refl}
use Rattle.memory_report.proofs.bad_words.push_count.Goals as goal

pub returns-clause-items : goal.returns-clause-items
returns-clause-items c = rw (c.push_bytes-3.ensures.items, c.push_decimal-2.ensures.items, c.push_bytes-2.ensures.items, c.push_decimal.ensures.items, c.push_bytes.ensures.items) (simp append_assoc refl)
