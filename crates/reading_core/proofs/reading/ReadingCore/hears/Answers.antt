use Rattle.std.proofs.Common.{rules}
use Rattle.reading_core.proofs.reading.ReadingCore.hears.Goals as goal

pub returns-in-Settle : goal.returns-in-Settle
returns-in-Settle c = search rules
