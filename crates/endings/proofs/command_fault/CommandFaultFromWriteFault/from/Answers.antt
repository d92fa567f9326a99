use Rattle.std.proofs.Common.{rules}
use Rattle.endings.proofs.command_fault.CommandFaultFromWriteFault.from.Goals as goal

pub returns : goal.returns
returns c = search rules
