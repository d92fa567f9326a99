use Rattle.std.proofs.Common.{rules}
use Rattle.endings.proofs.explaining.show.Goals as goal

pub returns-in-Err : goal.returns-in-Err
returns-in-Err g c = search rules
