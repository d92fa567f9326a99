use Rattle.std.proofs.Common.{rules}
use Rattle.machine_load.proofs.around.AroundSurroundings.connect.Goals as goal

pub returns-clause-asked : goal.returns-clause-asked
returns-clause-asked g c = search rules
