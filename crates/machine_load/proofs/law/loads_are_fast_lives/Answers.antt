use Rattle.machine_load.proofs.Lives.{loads_are_fast_lives}
use Rattle.machine_load.proofs.law.loads_are_fast_lives.Goals as goal

pub returns : goal.returns
returns c = loads_are_fast_lives
