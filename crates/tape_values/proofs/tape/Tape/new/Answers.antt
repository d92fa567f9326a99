use Rattle.std.proofs.Common.{rules}
use Rattle.tape_values.proofs.tape.Tape.new.Goals as goal

pub returns-in-Some-clause-handed_back : goal.returns-in-Some-clause-handed_back
returns-in-Some-clause-handed_back c = search rules
