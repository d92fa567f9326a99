use Rattle.std.proofs.Common.{rules}
use Rattle.tape_values.proofs.tape.Tape.start.Goals as goal

pub returns-clause-value : goal.returns-clause-value
returns-clause-value c = search rules
