use Rattle.std.proofs.Common.{append_assoc, refl}
use Rattle.memory_report.proofs.bad_words.push_numbers.Goals as goal

pub returns-clause-items : goal.returns-clause-items
returns-clause-items c = rw (c.push_reads-2.ensures.items, c.push_bytes-3.ensures.items, c.push_reads.ensures.items, c.push_bytes-2.ensures.items, c.push_octal.ensures.items, c.push_bytes.ensures.items, c.saturating_sub.ensures) (simp append_assoc refl)
