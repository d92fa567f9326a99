use Rattle.record_file.proofs.Asking.{asked_one}
use Rattle.record_file.proofs.Rows.{strange, then_ok, then_err}
use Rattle.record_file.specs.Holding.{IsOpened}
use Rattle.std.specs.Prelude.{None}
use Rattle.record_file.proofs.held_file.open.Goals as goal

pub returns-in-Ok-clause-asked : goal.returns-in-Ok-clause-asked
returns-in-Ok-clause-asked g c = then_ok (IsOpened c.args.name.now) _ _ _ _ c.open_found.result c.in-Ok.ensures.asked c.open_found.ensures.asked

pub returns-in-Ok-clause-failed : goal.returns-in-Ok-clause-failed
returns-in-Ok-clause-failed g c = then_err (IsOpened c.args.name.now None) _ _ _ _ c.open_found.result c.in-Ok.ensures.asked c.open_found.ensures.failed

pub returns-in-Err-clause-asked : goal.returns-in-Err-clause-asked
returns-in-Err-clause-asked g c = then_ok (IsOpened c.args.name.now) _ _ _ _ c.make.result c.in-Err.ensures.asked c.make.ensures.asked

pub returns-in-Err-clause-failed : goal.returns-in-Err-clause-failed
returns-in-Err-clause-failed g c = then_err (IsOpened c.args.name.now None) _ _ _ _ c.make.result c.in-Err.ensures.asked c.make.ensures.failed

pub returns-in_default-clause-failed : goal.returns-in_default-clause-failed
returns-in_default-clause-failed g c = asked_one _ _ _ c.look.ensures.asked (strange _ c.look.result)
