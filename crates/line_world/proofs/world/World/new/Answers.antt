use Rattle.std.proofs.Common.{rules}
use Rattle.line_world.proofs.world.World.new.Goals as goal

pub returns-clause-opened : goal.returns-clause-opened
returns-clause-opened c = search rules
