use Rattle.std.proofs.Common.{append_assoc, refl}
use Rattle.memory_report.proofs.bad_words.push_word.Goals as goal

pub returns-clause-items : goal.returns-clause-items
returns-clause-items c = rw (c.push_bytes.ensures.items, c.push_readings.ensures.items, c.push_octal.ensures.items) (simp append_assoc refl)
