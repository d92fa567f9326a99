use Rattle.std.proofs.lemmas.Grind.{common_steps}
use Rattle.std.proofs.Common.{rules, arith}
use Rattle.console_lines.proofs.stream_line.StreamLine.connect.Goals as goal

pub returns-in-Err-clause-fault : goal.returns-in-Err-clause-fault
returns-in-Err-clause-fault g c = search rules

pub returns-in_default-clause-asked : goal.returns-in_default-clause-asked
returns-in_default-clause-asked g c = search rules

pub returns-in-Ok-limit-clause-asked : goal.returns-in-Ok-limit-clause-asked
returns-in-Ok-limit-clause-asked g c = grind (arith, common_steps) steps 2000000

pub returns-in-Err-clause-asked : goal.returns-in-Err-clause-asked
returns-in-Err-clause-asked g c = grind (arith, common_steps) steps 2000000
