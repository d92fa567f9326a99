use Rattle.std.proofs.Common.{rules}
use Rattle.endings.proofs.explaining.refuse.Goals as goal

pub returns-clause-status : goal.returns-clause-status
returns-clause-status g c = search rules
