use Rattle.std.proofs.Common.{rules}
use Rattle.host_core.proofs.host.HostCore.next_word.Goals as goal

pub returns-in-Some-clause-next : goal.returns-in-Some-clause-next
returns-in-Some-clause-next c = search rules

pub returns-in-Some-clause-key : goal.returns-in-Some-clause-key
returns-in-Some-clause-key c = search rules

pub returns-in-None-clause-next : goal.returns-in-None-clause-next
returns-in-None-clause-next c = search rules

pub returns-in-None-clause-key : goal.returns-in-None-clause-key
returns-in-None-clause-key c = search rules
