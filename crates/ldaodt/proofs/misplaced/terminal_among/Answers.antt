use Rattle.ldaodt.proofs.Places.{one_tape}
use Rattle.ldaodt.proofs.misplaced.terminal_among.Goals as goal

pub returns-in-Some-clause-misplaced : goal.returns-in-Some-clause-misplaced
returns-in-Some-clause-misplaced g c = one_tape c.args.tapes.now c.loop-name.name-index _ c.in-Some.failure c.loop-name-test.true c.in-Some.ensures.misplaced
