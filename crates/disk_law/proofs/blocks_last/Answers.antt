use Rattle.disk_law.proofs.Blocks.{blocks_last}
use Rattle.disk_law.proofs.blocks_last.Goals as goal

pub returns : goal.returns
returns c = blocks_last
