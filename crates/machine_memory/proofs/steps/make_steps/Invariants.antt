-- The steps so far, and the host that puts back, wherever a word may be lent.
use Rattle.machine_probe.specs.Runs.{OnLine}
use Rattle.machine_memory.specs.BusRuns.{IsReady}
use Rattle.machine_memory.specs.Course.{AreWords, IsWithin}
use Rattle.machine_memory.specs.Runs.{AreSteps}
use Rattle.machine_memory.proofs.steps.make_steps.Given as goal

abbrev pub invariant-loop : goal.invariant-loop
invariant-loop g l =
    IsWithin l.fn.options.to l.course.place × AreWords l.course.words × IsReady l.fn.options l.course.place l.back
    × OnLine (AreSteps l.counter l.fn.options l.initial.course l.course) (g.L.Line.told l.initial.line) (g.L.Line.told l.line)
