use Rattle.machine_load.proofs.Faults.{looked_first}
use Rattle.machine_load.proofs.looks.look.Goals as goal

pub returns : goal.returns
returns g c = looked_first _ _ _ _ _ _ _ _ c.sampled-samples.ensures c.deref.ensures.value c.look_at.ensures
