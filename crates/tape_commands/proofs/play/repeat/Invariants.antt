-- The times so far were possible, and the rest of them leads to the world after all.
use Rattle.tape_commands.proofs.Plays.{IsRepeating}
use Rattle.tape_commands.proofs.play.repeat.Given as goal

abbrev pub invariant-loop-done : goal.invariant-loop-done
invariant-loop-done l = IsRepeating l.initial.world l.world l.event l.times l._done
