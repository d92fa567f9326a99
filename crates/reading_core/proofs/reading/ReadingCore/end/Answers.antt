use Rattle.std.proofs.Common.{rules}
use Rattle.reading_core.proofs.reading.ReadingCore.end.Goals as goal

pub returns-in-Ended-clause-value : goal.returns-in-Ended-clause-value
returns-in-Ended-clause-value c = search rules
