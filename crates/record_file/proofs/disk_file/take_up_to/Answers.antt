use Rattle.std.proofs.Common.{rules}
use Rattle.record_file.proofs.disk_file.take_up_to.Goals as goal

pub returns-clause-taken : goal.returns-clause-taken
returns-clause-taken g c = search rules
