use Rattle.std.proofs.Common.{rules}
use Rattle.tape_commands.proofs.worlds.open_world.Goals as goal

pub returns-clause-world : goal.returns-clause-world
returns-clause-world c = search rules
