use Rattle.std.proofs.Common.{rules}
use Rattle.machine_probe.proofs.room.Room.new.Goals as goal

pub returns : goal.returns
returns c = search rules
