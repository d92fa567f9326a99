use Rattle.record_file.proofs.Asking.{asked_one}
use Rattle.record_file.proofs.Rows.{then_ok, then_err}
use Rattle.record_file.specs.DiskStep.{Failed, Look}
use Rattle.record_file.specs.Holding.{IsOpened, Plain, Unmade}
use Rattle.std.proofs.Common.{◌∷◌}
use Rattle.std.specs.Prelude.{None}
use Rattle.record_file.proofs.held_file.make.Goals as goal

pub returns-in-Ok-clause-asked : goal.returns-in-Ok-clause-asked
returns-in-Ok-clause-asked g c = asked_one _ _ _ c.in-Ok.ensures.asked Plain

pub returns-in-Err-clause-asked : goal.returns-in-Err-clause-asked
returns-in-Err-clause-asked g c =
    then_ok (λ made steps. IsOpened c.args.name.now made (Failed (Look c.args.name.now) ∷ steps)) _ _ _ _ c.make_behind_link.result c.in-Err.ensures.asked c.make_behind_link.ensures.asked

pub returns-in-Err-clause-failed : goal.returns-in-Err-clause-failed
returns-in-Err-clause-failed g c =
    then_err (λ steps. IsOpened c.args.name.now None (Failed (Look c.args.name.now) ∷ steps)) _ _ _ _ c.make_behind_link.result c.in-Err.ensures.asked c.make_behind_link.ensures.failed

pub returns-in-Err-2-clause-failed : goal.returns-in-Err-2-clause-failed
returns-in-Err-2-clause-failed g c = asked_one _ _ _ c.in-Err-2.ensures.asked Unmade
