use Rattle.std.proofs.Common.{rules}
use Rattle.machine_load.proofs.loading.what_is_said.Goals as goal

pub returns-clause-ours : goal.returns-clause-ours
returns-clause-ours c = search rules
