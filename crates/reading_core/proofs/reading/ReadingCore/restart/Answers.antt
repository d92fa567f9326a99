use Rattle.std.proofs.Common.{rules}
use Rattle.reading_core.proofs.reading.ReadingCore.restart.Goals as goal

pub returns-clause-begun : goal.returns-clause-begun
returns-clause-begun c = search rules
