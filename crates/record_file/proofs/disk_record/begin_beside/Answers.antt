use Rattle.record_file.proofs.Aside.{at_folder, but_join}
use Rattle.host_devices.proofs.Told.{tells_join}
use Rattle.record_file.proofs.Asking.{asked_one}
use Rattle.record_file.specs.Beginning.{NotRenamed, Stopped}
use Rattle.record_file.proofs.Rows.{aside_first, lies_on_disk, beside_behind, beside_failed, beside_kept, but_new, failed_join, made_some, not_renamed_for, stopped, taken_back}
use Rattle.std.proofs.Common.{refl, ◌∙◌}
use Rattle.record_file.proofs.disk_record.begin_beside.Goals as goal

pub returns-then-not-is_sole_file-clause-asked : goal.returns-then-not-is_sole_file-clause-asked
returns-then-not-is_sole_file-clause-asked g c = asked_one _ _ _ c.if-not-is_sole_file.ensures.asked (NotRenamed _ ((λ held. tt), refl) tt)

pub returns-in_err-text-clause-asked : goal.returns-in_err-text-clause-asked
returns-in_err-text-clause-asked g c = beside_failed _ _ _ _ _ _ c.from_residual.result c.from_residual.ensures.0 (asked_one _ _ _ c.if-not-is_sole_file.ensures.asked (Stopped _ ((λ held. tt), refl)))

pub returns-in_default-clause-asked : goal.returns-in_default-clause-asked
returns-in_default-clause-asked g c = asked_one _ _ _ (tells_join _ _ _ _ _ c.if-not-is_sole_file.ensures.asked c.in_default.ensures.asked) (NotRenamed _ ((λ held. tt), refl) tt)

pub returns-in_err-file-clause-asked : goal.returns-in_err-file-clause-asked
returns-in_err-file-clause-asked g c = beside_failed _ _ _ _ _ _ c.from_residual-in_err-file.result c.from_residual-in_err-file.ensures.0
    (stopped _ _ _ _ _ _ (c.as_str-beside.ensures.value ∙ c.in_ok-text.ensures.ok) (but_join _ _ _ _ _ (aside_first _ _ _ _ _ _ c.if-not-is_sole_file.ensures.asked c.in-Ok.ensures.asked) c.in_err-file.ensures.stopped))

pub returns-in_default-2-clause-asked : goal.returns-in_default-2-clause-asked
returns-in_default-2-clause-asked g c = not_renamed_for _ _ _ _ _ _ (c.as_str-beside.ensures.value ∙ c.in_ok-text.ensures.ok) (failed_join _ _ _ _ (aside_first _ _ _ _ _ _ c.if-not-is_sole_file.ensures.asked c.in-Ok.ensures.asked) (c.in_ok-file.ensures.failed c.in_default-2.is))

pub returns-in_err-replaced-in-Ok-begun-clause-asked : goal.returns-in_err-replaced-in-Ok-begun-clause-asked
returns-in_err-replaced-in-Ok-begun-clause-asked g c =
    let first = but_join _ _ _ _ _ (at_folder _ _ _ _ c.in-Ok.ensures.asked) (but_new _ _ _ _ _ (c.as_str-beside.ensures.value ∙ c.in_ok-text.ensures.ok) (made_some _ _ _ c.in_ok-file.field-0 c.in-Some.file c.in-Some.is c.in_ok-file.ensures.asked)) in
    beside_failed _ _ _ _ _ _ c.from_residual-in_err-replaced-in-Ok-begun.result c.from_residual-in_err-replaced-in-Ok-begun.ensures.0
    (beside_behind _ _ _ _ _ _ _ _ _ c.if-not-is_sole_file.ensures.asked first (c.in_err-replaced-in-Ok-begun.ensures.asked _ _ c.in-Ok.ensures.opened c.folder_of.ensures (lies_on_disk g.D.File.Write.contents _ c.in_ok-file.field-0 c.in-Some.file _ _ _ _ _ c.in-Some.is c.in_ok-file.ensures.fresh c.permit_as.ensures.same c.in-Ok-begun.ensures.written c.in-Ok-begun.ensures.begun.lasts c.writer.ensures.lasting)))

pub returns-in-Ok-begun-clause-asked : goal.returns-in-Ok-begun-clause-asked
returns-in-Ok-begun-clause-asked g c =
    let first = but_join _ _ _ _ _ (at_folder _ _ _ _ c.in-Ok.ensures.asked) (but_new _ _ _ _ _ (c.as_str-beside.ensures.value ∙ c.in_ok-text.ensures.ok) (made_some _ _ _ c.in_ok-file.field-0 c.in-Some.file c.in-Some.is c.in_ok-file.ensures.asked)) in
    beside_kept _ _ _ _ _ _ c.then_some.result c.in_ok-replaced-in-Ok-begun.replaced _ c.then_some.ensures
    (beside_behind _ _ _ _ _ _ _ _ _ c.if-not-is_sole_file.ensures.asked first (c.in_ok-replaced-in-Ok-begun.ensures.asked _ _ c.in-Ok.ensures.opened c.folder_of.ensures (lies_on_disk g.D.File.Write.contents _ c.in_ok-file.field-0 c.in-Some.file _ _ _ _ _ c.in-Some.is c.in_ok-file.ensures.fresh c.permit_as.ensures.same c.in-Ok-begun.ensures.written c.in-Ok-begun.ensures.begun.lasts c.writer.ensures.lasting)))

pub returns-clause-asked : goal.returns-clause-asked
returns-clause-asked g c = stopped _ _ _ _ _ _ (c.as_str-beside.ensures.value ∙ c.in_ok-text.ensures.ok)
    (taken_back _ c.remove.result _ _ _ _ (aside_first _ _ _ _ _ _ c.if-not-is_sole_file.ensures.asked c.in-Ok.ensures.asked) (made_some _ _ _ c.in_ok-file.field-0 c.in-Some.file c.in-Some.is c.in_ok-file.ensures.asked) c.remove.ensures.asked)
