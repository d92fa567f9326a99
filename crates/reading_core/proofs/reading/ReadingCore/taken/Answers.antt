use Rattle.std.proofs.Common.{rules}
use Rattle.reading_core.proofs.reading.ReadingCore.taken.Goals as goal

pub returns-in-Stray-2-clause-next : goal.returns-in-Stray-2-clause-next
returns-in-Stray-2-clause-next c = search rules

pub returns-in-Stray-2-clause-key : goal.returns-in-Stray-2-clause-key
returns-in-Stray-2-clause-key c = search rules

pub returns-in-Read-clause-key : goal.returns-in-Read-clause-key
returns-in-Read-clause-key c = search rules
