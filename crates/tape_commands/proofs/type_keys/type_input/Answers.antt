use Rattle.std.proofs.Common.{rules}
use Rattle.tape_commands.proofs.type_keys.type_input.Goals as goal

pub returns-in-Ok-type_to-clause-ok : goal.returns-in-Ok-type_to-clause-ok
returns-in-Ok-type_to-clause-ok g c = rw (← c.streams.view_is) (search rules)
