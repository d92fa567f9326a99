use Rattle.host_devices.proofs.Told.{tells_none}
use Rattle.std.proofs.KnownBytes.{Keeps-refl, Keeps-trans}
use Rattle.record_file.proofs.Asking.{asked_one}
use Rattle.record_file.proofs.Rows.{one_more, tried}
use Rattle.std.proofs.Common.{rules, ◌+◌}
use Rattle.record_file.specs.Holding.{NoTry}
use Rattle.record_file.proofs.held_file.hold.Goals as goal

pub loop-init : goal.loop-init
loop-init g c = (λ name. Keeps-refl _, asked_one _ _ _ (tells_none _) NoTry)

pub loop-preserved : goal.loop-preserved
loop-preserved g c = (
  λ name. Keeps-trans _ _ _ (c.loop.invariant.0 name) (c.in-Err-Changed.ensures.kept name),
  one_more _ _ _ _ _ c.loop.counter c.loop.invariant.1 c.in-Err-Changed.ensures.failed,
)

pub returns-in-Ok-clause-asked : goal.returns-in-Ok-clause-asked
returns-in-Ok-clause-asked g c = tried _ _ _ _ (c.loop.counter + 1) (search rules) (search rules) (one_more _ _ _ _ _ c.loop.counter c.loop.invariant.1 c.in-Ok.ensures.asked)

pub returns-in-Ok-clause-text : goal.returns-in-Ok-clause-text
returns-in-Ok-clause-text g c = Keeps-trans _ _ _ (c.loop.invariant.0 c.args.name.now) c.in-Ok.ensures.text

pub returns-in-Err-Nothing-clause-asked : goal.returns-in-Err-Nothing-clause-asked
returns-in-Err-Nothing-clause-asked g c = tried _ _ _ _ (c.loop.counter + 1) (search rules) (search rules) (one_more _ _ _ _ _ c.loop.counter c.loop.invariant.1 c.in-Err-Nothing.ensures.failed)

pub returns-in-Err-Read-clause-failed : goal.returns-in-Err-Read-clause-failed
returns-in-Err-Read-clause-failed g c = tried _ _ _ _ (c.loop.counter + 1) (search rules) (search rules) (one_more _ _ _ _ _ c.loop.counter c.loop.invariant.1 c.in-Err-Read.ensures.failed)

pub returns-in-Err-InUse-clause-failed : goal.returns-in-Err-InUse-clause-failed
returns-in-Err-InUse-clause-failed g c = tried _ _ _ _ (c.loop.counter + 1) (search rules) (search rules) (one_more _ _ _ _ _ c.loop.counter c.loop.invariant.1 c.in-Err-InUse.ensures.failed)

pub returns-clause-failed : goal.returns-clause-failed
returns-clause-failed g c = tried _ _ _ _ c.loop.counter (search rules) (search rules) c.loop.invariant.1
