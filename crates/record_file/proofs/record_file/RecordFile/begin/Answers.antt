use Rattle.std.proofs.Common.{refl, ap}
use Rattle.record_file.specs.Known.{known_of}
use Rattle.record_file.proofs.Begun.{known, none_known, begun_beside, begun_in_place, not_begun_in_place, not_begun_beside, replaced_remains, each_ok, each_err}
use Rattle.record_file.proofs.record_file.RecordFile.begin.Goals as goal

pub returns-in_default-clause-failed : goal.returns-in_default-clause-failed
returns-in_default-clause-failed g c = none_known _ _ _ _ c.in_default.ensures.value refl

pub returns-in-Ok-Some-clause-asked : goal.returns-in-Ok-Some-clause-asked
returns-in-Ok-Some-clause-asked g c = known _ _ _ _ c.in-Some.held c.in-Some.ensures.value (begun_beside _ _ _ _ _ _ _ _ c.in-Ok-Some.field-0-is c.in-Ok-Some.ensures.asked)

pub returns-in-Ok-Some-clause-remains : goal.returns-in-Ok-Some-clause-remains
returns-in-Ok-Some-clause-remains g c = replaced_remains _ _ _ _ _ _ _ _ c.in-Ok-Some.field-0-is c.in-Ok-Some.ensures.asked

pub returns-in-Ok-None-clause-asked : goal.returns-in-Ok-None-clause-asked
returns-in-Ok-None-clause-asked g c = each_ok _ _ c.begin_in_place.result (λ keeper w. known _ _ _ _ c.in-Some.held c.in-Some.ensures.value (begun_in_place _ _ _ (known_of g.D.File.DiskFile.written c.begin_beside.new.held) _ _ _ _ c.in-Ok-None.field-0-is c.in-Ok-None.ensures.device (ap g.D.File.DiskFile.written c.in-Ok-None.ensures.old_record) c.in-Ok-None.ensures.asked w)) c.begin_in_place.ensures.asked

pub returns-in-Ok-None-clause-failed : goal.returns-in-Ok-None-clause-failed
returns-in-Ok-None-clause-failed g c = each_err c.begin_in_place.result (λ w. known _ _ _ _ c.in-Some.held c.in-Some.ensures.value (not_begun_in_place _ _ _ (known_of g.D.File.DiskFile.written c.begin_beside.new.held) _ _ _ _ c.in-Ok-None.field-0-is (ap g.D.File.DiskFile.written c.in-Ok-None.ensures.old_record) c.in-Ok-None.ensures.asked w)) c.begin_in_place.ensures.failed

pub returns-in-Err-clause-failed : goal.returns-in-Err-clause-failed
returns-in-Err-clause-failed g c = known _ _ _ _ c.in-Some.held c.in-Some.ensures.value (not_begun_beside _ _ _ _ _ _ _ c.in-Err.ensures.asked c.let_go.ensures.asked)
