use Rattle.std.proofs.Common.{rules}
use Rattle.load_record.proofs.file_keep.FileKeep.is_broken.Goals as goal

pub returns : goal.returns
returns g c = search rules
