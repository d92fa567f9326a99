use Rattle.line_world.specs.World.{work_left}
use Rattle.line_world.proofs.InTurn.{CleanStretch}
use Rattle.line_world.proofs.world.World.run_to_end.Given as goal

abbrev pub invariant-loop-end : goal.invariant-loop-end
invariant-loop-end l = CleanStretch l.initial.self l.self

abbrev pub decreases-loop-end : goal.decreases-loop-end
decreases-loop-end l = work_left l.self
