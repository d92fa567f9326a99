use Rattle.stub.proofs.Whole.{do_as_told}
use Rattle.stub.proofs.law.stubs_do_as_told.Goals as goal

pub returns : goal.returns
returns c = do_as_told
