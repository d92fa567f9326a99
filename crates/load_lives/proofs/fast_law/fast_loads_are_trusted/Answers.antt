use Rattle.load_lives.proofs.Loads.{fast_loads_are_trusted}
use Rattle.load_lives.proofs.fast_law.fast_loads_are_trusted.Goals as goal

pub returns : goal.returns
returns c = fast_loads_are_trusted
