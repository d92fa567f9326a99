use Rattle.std.proofs.Common.{length, ◌≤◌}
use Rattle.loss_scripts.proofs.Codes.{Gathers}
use Rattle.loss_scripts.proofs.line.waiting.Given as goal

abbrev pub invariant-loop-character : goal.invariant-loop-character
invariant-loop-character l = Gathers l.initial.rest l.rest l.waiting.items × (length l.waiting.items ≤ 32)

abbrev pub decreases-loop-character : goal.decreases-loop-character
decreases-loop-character l = length l.rest
