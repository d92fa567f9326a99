use Rattle.exchange_law.proofs.Passing.{exchanges_are_true}
use Rattle.exchange_law.proofs.exchanges.exchanges_are_true.Goals as goal

pub returns : goal.returns
returns c = exchanges_are_true
