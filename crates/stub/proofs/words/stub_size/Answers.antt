use Rattle.stub.proofs.Sizes.{stub_size}
use Rattle.stub.proofs.words.stub_size.Goals as goal

pub returns-clause-words : goal.returns-clause-words
returns-clause-words c = stub_size c.args.stretches
