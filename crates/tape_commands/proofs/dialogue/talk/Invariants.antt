-- What was told so far, and what the rest of a clean line tells, is what all of it tells.
use Rattle.line_world.specs.World.{work_left}
use Rattle.tape_commands.proofs.Dialogues.{Conversation}
use Rattle.tape_commands.proofs.dialogue.talk.Given as goal

abbrev pub invariant-loop-end : goal.invariant-loop-end
invariant-loop-end g l = Conversation l.initial.world l.world l.under_way (g.W.Write.contents l.initial.out) (g.W.Write.contents l.out)

abbrev pub decreases-loop-end : goal.decreases-loop-end
decreases-loop-end g l = work_left l.world
