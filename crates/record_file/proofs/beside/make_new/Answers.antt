use Rattle.std.proofs.Common.{refl}
use Rattle.host_devices.proofs.Told.{tells_join}
use Rattle.record_file.proofs.Asking.{asked_one, on_err}
use Rattle.record_file.proofs.Rows.{fresh}
use Rattle.record_file.proofs.beside.make_new.Goals as goal

pub returns-in-Err-clause-asked : goal.returns-in-Err-clause-asked
returns-in-Err-clause-asked g c = let h = c.make_again.ensures.asked in asked_one _ _ _ (tells_join _ _ _ _ _ c.in-Err.ensures.asked h.1) h.2

pub returns-in-Err-clause-failed : goal.returns-in-Err-clause-failed
returns-in-Err-clause-failed g c = let h = c.make_again.ensures.asked in
    on_err c.make_again.result (asked_one _ _ _ (tells_join _ _ _ _ _ c.in-Err.ensures.asked h.1) (h.2, tt))

pub returns-in_default-clause-asked : goal.returns-in_default-clause-asked
returns-in_default-clause-asked g c = asked_one _ _ _ c.in-Err.ensures.asked ((λ held. tt), refl)

pub returns-in_default-clause-failed : goal.returns-in_default-clause-failed
returns-in_default-clause-failed g c = asked_one _ _ _ c.in-Err.ensures.asked (((λ held. tt), refl), tt)

pub returns-in_default-2-clause-asked : goal.returns-in_default-2-clause-asked
returns-in_default-2-clause-asked g c = asked_one _ _ _ c.open.ensures.asked (fresh _ c.open.result)
