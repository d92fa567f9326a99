use Rattle.load_lives.proofs.Stopping.{records_are_fronts}
use Rattle.load_lives.proofs.law.records_are_fronts.Goals as goal

pub returns : goal.returns
returns c = records_are_fronts
