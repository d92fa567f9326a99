-- The count so far is that of the numbers so far.
use Rattle.std.proofs.Common.{◌≡◌, ◌≤◌, length, take}
use Rattle.machine_look.specs.Differences.{differences}
use Rattle.machine_look.proofs.difference.count_differences.Given as goal

abbrev pub invariant-loop-place : goal.invariant-loop-place
invariant-loop-place l = (l.count ≡ length (differences l.words (take l.place l.numbers))) × (l.count ≤ l.place)
