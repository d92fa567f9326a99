use Rattle.std.proofs.Common.{rules}
use Rattle.endings.proofs.failure.Failure.status.Goals as goal

pub returns-in-TapeRefused : goal.returns-in-TapeRefused
returns-in-TapeRefused c = search rules

pub returns-in-TapeRefused-2 : goal.returns-in-TapeRefused-2
returns-in-TapeRefused-2 c = search rules

pub returns-in-TapeRefused-3 : goal.returns-in-TapeRefused-3
returns-in-TapeRefused-3 c = search rules

pub returns-in-TapeRefused-4 : goal.returns-in-TapeRefused-4
returns-in-TapeRefused-4 c = search rules
