use Rattle.machine_load.proofs.Fronts.{stub_fronts}
use Rattle.machine_load.proofs.law.stub_fronts_are_stopped.Goals as goal

pub returns : goal.returns
returns c = stub_fronts
