use Rattle.record_file.proofs.Aside.{but_join}
use Rattle.record_file.proofs.Asking.{asked_one}
use Rattle.record_file.proofs.Rows.{failed_join, not_held_then, then_held}
use Rattle.record_file.proofs.disk_record.make_beside.Goals as goal

pub returns-then-hold-clause-asked : goal.returns-then-hold-clause-asked
returns-then-hold-clause-asked g c = but_join _ _ _ _ _ c.in-Ok.ensures.asked (asked_one _ _ _ (c.if-hold.ensures.asked _ c.in-Ok.ensures.named) (then_held c.args.name.now))

pub returns-else-hold-clause-asked : goal.returns-else-hold-clause-asked
returns-else-hold-clause-asked g c = but_join _ _ _ _ _ c.in-Ok.ensures.asked (asked_one _ _ _ (c.if-hold.ensures.asked _ c.in-Ok.ensures.named) (not_held_then c.args.name.now))

pub returns-else-hold-clause-failed : goal.returns-else-hold-clause-failed
returns-else-hold-clause-failed g c none = failed_join _ _ _ _ c.in-Ok.ensures.asked (asked_one _ _ _ (c.if-hold.ensures.asked _ c.in-Ok.ensures.named) (not_held_then c.args.name.now, tt))
