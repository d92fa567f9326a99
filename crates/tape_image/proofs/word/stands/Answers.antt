use Rattle.std.proofs.Common.{rules}
use Rattle.tape_image.proofs.word.stands.Goals as goal

pub returns-else-low-clause-stands : goal.returns-else-low-clause-stands
returns-else-low-clause-stands c = search rules

pub returns-else-low-clause-merged : goal.returns-else-low-clause-merged
returns-else-low-clause-merged c = search rules
