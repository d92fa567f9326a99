-- The first good one of the words so far.
use Rattle.std.proofs.Common.{◌≡◌, take}
use Rattle.machine_memory.specs.BusCourse.{first_good}
use Rattle.machine_memory.proofs.bus_course.first_good.Given as goal

abbrev pub invariant-loop-word : goal.invariant-loop-word
invariant-loop-word l = l.found ≡ first_good (take l.word-index l.words)
