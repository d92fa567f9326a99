use Rattle.record_file.proofs.Rows.{tried_ok, tried_err}
use Rattle.record_file.specs.Holding.{NotOpened}
use Rattle.record_file.proofs.held_file.try_hold.Goals as goal

pub returns-in-Ok-clause-asked : goal.returns-in-Ok-clause-asked
returns-in-Ok-clause-asked g c = tried_ok _ _ _ _ _ c.hold_opened.result c.in-Ok.ensures.asked c.hold_opened.ensures.made c.hold_opened.ensures.asked

pub returns-in-Ok-clause-failed : goal.returns-in-Ok-clause-failed
returns-in-Ok-clause-failed g c = tried_err _ _ _ _ _ c.hold_opened.result c.in-Ok.ensures.asked c.hold_opened.ensures.failed

pub returns-in-Err-clause-failed : goal.returns-in-Err-clause-failed
returns-in-Err-clause-failed g c = let h = c.in-Err.ensures.failed in (h.0, h.1, NotOpened _ h.2)
