use Rattle.std.proofs.Common.{rules}
use Rattle.machine_load.proofs.Opened.{opens}
use Rattle.machine_load.proofs.loading.first_life.Goals as goal

pub returns-clause-opened : goal.returns-clause-opened
returns-clause-opened g c = opens _ _ _ _ _ _ _ _ _ _ _ _ c.in_ok-record.ensures.step c.read_record.ensures.same c.in_ok-record.ensures.text c.in_ok-record.ensures.disk
    c.in_ok-record.ensures.left c.deref.ensures.value c.in_ok-said.ensures.ours c.in_ok-said.ensures.said (search rules) c.plan-2.ensures c.verified.ensures.value c.in_ok-may_begin.ensures.means

pub returns-clause-asked : goal.returns-clause-asked
returns-clause-asked g c = search rules

pub returns-clause-call : goal.returns-clause-call
returns-clause-call g c = search rules
