use Rattle.std.proofs.Common.{rules}
use Rattle.load_record.proofs.file_keep.FileKeep.settle.Goals as goal

pub returns-clause-ok : goal.returns-clause-ok
returns-clause-ok g c = search rules
