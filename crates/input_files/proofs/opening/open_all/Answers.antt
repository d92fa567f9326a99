use Rattle.input_files.proofs.Tried.{failed_as}
use Rattle.input_files.proofs.opening.open_all.Goals as goal

pub returns-in_err-open_more-clause-err : goal.returns-in_err-open_more-clause-err
returns-in_err-open_more-clause-err g c =
    failed_as c.args.names.now c.from_residual.result c.in_err-open_more.field-0.0 _ _ c.from_residual.ensures.1 c.in_err-open_more.ensures.err
