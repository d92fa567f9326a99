use Rattle.std.proofs.Common.{rules}
use Rattle.line_world.proofs.world.World.next_event.Goals as goal

pub returns-then-not-is_empty : goal.returns-then-not-is_empty
returns-then-not-is_empty c = search rules

pub returns-else-not-is_empty-2 : goal.returns-else-not-is_empty-2
returns-else-not-is_empty-2 c = search rules
