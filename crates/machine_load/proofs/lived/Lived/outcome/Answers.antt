use Rattle.std.proofs.Common.{rules}
use Rattle.machine_load.proofs.lived.Lived.outcome.Goals as goal

pub returns : goal.returns
returns g c = search rules
