use Rattle.std.proofs.lemmas.Result.{IfOk-weaker, IfErr-weaker}
use Rattle.machine_load.proofs.Driving.{kept_on_disk, load_reported, load_unreported, reported_also, unreported_also}
use Rattle.told_calls.specs.ToldSteps.{written_to}
use Rattle.load_tests.specs.Told.{record_told}
use Rattle.load_tests.proofs.disk_loads.load_on_disk.Goals as goal

pub returns-clause-ok : goal.returns-clause-ok
returns-clause-ok g c =
    let last = c.load-outcome.new.around.records in
    IfOk-weaker c.load-outcome.result _ _
    (λ outcome loaded. (record_told last.disk.asked last.name.now last.held, (reported_also _ _ (kept_on_disk written_to) _ _ _ (load_reported _ _ _ outcome loaded)).reported, c.close.ensures.asked)) c.load-outcome.ensures.ok

pub returns-clause-err : goal.returns-clause-err
returns-clause-err g c =
    let last = c.load-outcome.new.around.records in
    IfErr-weaker c.load-outcome.result _ _
    (λ fault why. (record_told last.disk.asked last.name.now last.held, (unreported_also _ _ (kept_on_disk written_to) _ _ _ (load_unreported _ _ _ fault why)).fault, c.close.ensures.asked)) c.load-outcome.ensures.err
