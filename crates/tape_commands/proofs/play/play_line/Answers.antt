use Rattle.std.proofs.Common.{rules}
use Rattle.tape_commands.proofs.play.play_line.Goals as goal

pub returns : goal.returns
returns c = search rules
