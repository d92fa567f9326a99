use Rattle.tape_making.proofs.Lines.{said_wrong}
use Rattle.tape_making.proofs.line.read_line.Goals as goal

pub returns-in_err-numbers : goal.returns-in_err-numbers
returns-in_err-numbers c =
    said_wrong c.args.line.now c.without_remark.result.now c.in_err-numbers.field-0.0 c.from_residual.result c.without_remark.ensures c.from_residual.ensures.1 c.in_err-numbers.ensures
