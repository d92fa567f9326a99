use Rattle.std.proofs.Common.{rules}
use Rattle.reading_core.proofs.reading.ReadingCore.in_room.Goals as goal

pub invariant_of-result : goal.invariant_of-result
invariant_of-result c = search rules

pub returns-clause-begun : goal.returns-clause-begun
returns-clause-begun c = search rules

pub returns-clause-kept : goal.returns-clause-kept
returns-clause-kept c = search rules
