use Rattle.disk_law.proofs.Own.{only_its_own_file_goes}
use Rattle.disk_law.proofs.only_its_own_file_goes.Goals as goal

pub returns : goal.returns
returns c = only_its_own_file_goes
