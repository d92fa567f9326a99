use Rattle.run_log.proofs.Since.{noted_on}
use Rattle.run_log.proofs.noted_output.NotedOutputWrite.write.Goals as goal

pub invariant_of-self : goal.invariant_of-self
invariant_of-self g c = noted_on g.E.FirstHeld.held _ _ _ _ _ c.in-Ok.ensures.bytes c.see.ensures c.self.invariant

pub invariant_of-self-in_default-last : goal.invariant_of-self-in_default-last
invariant_of-self-in_default-last g c = noted_on g.E.FirstHeld.held _ _ _ _ _ c.in-Ok.ensures.bytes c.see.ensures c.self.invariant
