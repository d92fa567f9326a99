use Rattle.std.proofs.Common.{rules}
use Rattle.byte_io.proofs.Fronts.{front_whole}
use Rattle.byte_io.proofs.output.write_and_flush.Goals as goal

pub returns-then-is_err-clause-err : goal.returns-then-is_err-clause-err
returns-then-is_err-clause-err g c = front_whole _ _ _ (search rules)
