use Rattle.stub.proofs.Seen.{are_seen_so}
use Rattle.stub.proofs.law.stubs_are_seen_so.Goals as goal

pub returns : goal.returns
returns c = are_seen_so
