use Rattle.std.proofs.Common.{rules}
use Rattle.reading_core.proofs.reading.note.Goals as goal

pub returns-in-Read-clause-items : goal.returns-in-Read-clause-items
returns-in-Read-clause-items c = search rules
