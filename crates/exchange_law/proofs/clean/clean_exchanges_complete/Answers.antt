use Rattle.exchange_law.proofs.Whole.{clean_exchanges_complete}
use Rattle.exchange_law.proofs.clean.clean_exchanges_complete.Goals as goal

pub returns : goal.returns
returns c = clean_exchanges_complete
