use Rattle.std.proofs.Common.{rules}
use Rattle.tape_image.proofs.word.merge.Goals as goal

pub returns-clause-value : goal.returns-clause-value
returns-clause-value c = search rules

pub returns-clause-halves : goal.returns-clause-halves
returns-clause-halves c = search rules

pub returns-clause-unchanged : goal.returns-clause-unchanged
returns-clause-unchanged c = search rules
