use Rattle.stub.proofs.Quick.{come_to_rest}
use Rattle.stub.proofs.law.stubs_rest.Goals as goal

pub returns : goal.returns
returns c = come_to_rest
