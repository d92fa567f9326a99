use Rattle.tape_making.proofs.OneReading.{one_meaning}
use Rattle.tape_making.proofs.law.one_reading.Goals as goal

pub returns : goal.returns
returns c = λ text said other is also. one_meaning text said other is also
