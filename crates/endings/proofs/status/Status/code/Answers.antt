use Rattle.std.proofs.Common.{rules}
use Rattle.endings.proofs.status.Status.code.Goals as goal

pub returns-in-Refused : goal.returns-in-Refused
returns-in-Refused c = search rules
