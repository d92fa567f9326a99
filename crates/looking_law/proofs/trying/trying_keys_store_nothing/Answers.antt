use Rattle.looking_law.proofs.Keys.{store_nothing}
use Rattle.looking_law.proofs.trying.trying_keys_store_nothing.Goals as goal

pub returns : goal.returns
returns c = store_nothing
