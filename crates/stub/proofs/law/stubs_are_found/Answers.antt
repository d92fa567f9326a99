use Rattle.stub.proofs.Decoding.{are_found}
use Rattle.stub.proofs.law.stubs_are_found.Goals as goal

pub returns : goal.returns
returns c = are_found
