use Rattle.stub.proofs.Quick.{keep_up}
use Rattle.stub.proofs.law.stubs_keep_up.Goals as goal

pub returns : goal.returns
returns c = keep_up
