-- The lines that are left, played from here, are all the lines played from the start; those not possible so far are told.
use Rattle.std.proofs.Common.{drop}
use Rattle.tape_commands.proofs.Plays.{IsPlaying}
use Rattle.tape_commands.proofs.play.play.Given as goal

abbrev pub invariant-loop-line : goal.invariant-loop-line
invariant-loop-line l = IsPlaying l.initial.world l.world l.steps (drop l.line-index l.steps) l.initial.text.items l.text.items
