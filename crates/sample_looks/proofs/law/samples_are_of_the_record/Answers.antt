use Rattle.sample_looks.proofs.OfRecord.{are_of_the_record}
use Rattle.sample_looks.proofs.law.samples_are_of_the_record.Goals as goal

pub returns : goal.returns
returns c = are_of_the_record
