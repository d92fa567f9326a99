use Rattle.std.proofs.Common.{rules}
use Rattle.machine_load.proofs.looks.LooksRoom.new.Goals as goal

pub returns : goal.returns
returns c = search rules
