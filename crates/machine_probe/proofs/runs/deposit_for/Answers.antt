use Rattle.std.proofs.Common.{rules}
use Rattle.machine_probe.proofs.runs.deposit_for.Goals as goal

pub returns-in_ok-deposit-in-Number : goal.returns-in_ok-deposit-in-Number
returns-in_ok-deposit-in-Number c = search rules
