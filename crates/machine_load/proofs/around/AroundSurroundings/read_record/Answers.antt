use Rattle.std.proofs.Common.{rules}
use Rattle.machine_load.proofs.around.AroundSurroundings.read_record.Goals as goal

pub returns-clause-disk : goal.returns-clause-disk
returns-clause-disk g c = search rules
