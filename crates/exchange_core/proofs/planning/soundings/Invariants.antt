use Rattle.exchange_core.specs.StubPlan.{AreSoundingsBefore}
use Rattle.exchange_core.proofs.planning.soundings.Given as goal

abbrev pub invariant-loop-number : goal.invariant-loop-number
invariant-loop-number l = AreSoundingsBefore l.fn.plan l.fn.from l.fn.to l.number l.blocks.items
