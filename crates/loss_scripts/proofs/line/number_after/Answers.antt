use Rattle.std.proofs.Common.{arith}
use Rattle.loss_scripts.proofs.Forms.{without_number, that_number}
use Rattle.loss_scripts.proofs.line.number_after.Goals as goal
use Rattle.loss_scripts.proofs.line.number_after.Goals.{else-from-n-via-then-from-n+else-n-from, else-from-n-via-else-from-n}

pub returns-in_err-n-clause-none : goal.returns-in_err-n-clause-none
returns-in_err-n-clause-none c =
    rw c.from_residual-in_err-n.ensures (without_number c.args.text.now c.args.keyword.now c.in_ok-rest.rest.now c.args.low c.args.high c.in_ok-rest.ensures.found c.in_err-n.ensures.none)

pub returns-else-from-n-clause-none : goal.returns-else-from-n-clause-none
returns-else-from-n-clause-none c n has =
    let same = that_number c.args.text.now c.args.keyword.now c.in_ok-rest.rest.now c.args.low c.args.high c.in_ok-n.n n c.in_ok-rest.ensures.found c.in_ok-n.ensures.found has in
    let above = has.above in
    let below = has.below in
    elim c.else-from-n.branch [ else-from-n-via-then-from-n+else-n-from w ↦ omega arith | else-from-n-via-else-from-n w ↦ omega arith ]
