use Rattle.std.proofs.Common.{rules}
use Rattle.machine_probe.proofs.runs.find_memory.Goals as goal

pub returns-in_err-found-in-Forgets : goal.returns-in_err-found-in-Forgets
returns-in_err-found-in-Forgets g c = search rules

pub returns-in_ok-found-in-Forgets : goal.returns-in_ok-found-in-Forgets
returns-in_ok-found-in-Forgets g c = search rules
