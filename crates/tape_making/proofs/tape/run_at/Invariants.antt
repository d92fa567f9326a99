use Rattle.tape_making.proofs.Runs.{IsRunTo}
use Rattle.tape_making.proofs.tape.run_at.Given as goal

abbrev pub invariant-loop-address : goal.invariant-loop-address
invariant-loop-address l = IsRunTo l.bytes l.first l.address l.run.items
