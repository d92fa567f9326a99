use Rattle.std.proofs.Common.{rules}
use Rattle.tape_values.proofs.tape.bad_bytes.Goals as goal

pub returns-clause-judged : goal.returns-clause-judged
returns-clause-judged c = search rules
