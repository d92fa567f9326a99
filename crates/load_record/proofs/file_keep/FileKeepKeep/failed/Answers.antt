use Rattle.std.proofs.Common.{rules}
use Rattle.load_record.proofs.file_keep.FileKeepKeep.failed.Goals as goal

pub returns : goal.returns
returns g c = search rules
