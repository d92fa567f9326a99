use Rattle.record_file.proofs.Asking.{on_err}
use Rattle.record_file.proofs.Begun.{of_found, read_none, read_of, read_some, unread}
use Rattle.record_file.specs.Reading.{NotHeld}
use Rattle.record_file.proofs.record_file.RecordFile.read.Goals as goal

pub returns-in_err-held-clause-failed : goal.returns-in_err-held-clause-failed
returns-in_err-held-clause-failed g c = let h = c.in_err-held.ensures.failed in on_err c.from_residual.result (h.0, h.1, NotHeld _ h.2)

pub returns-in_default-clause-asked : goal.returns-in_default-clause-asked
returns-in_default-clause-asked g c = read_none _ _ _ _ c.in_ok-held.field-0 _ c.in_default.is c.new.ensures.items c.in_ok-held.ensures.asked

pub returns-in-Ok-clause-asked : goal.returns-in-Ok-clause-asked
returns-in-Ok-clause-asked g c = read_some _ _ _ g.D.File.DiskFile.written _ _ _ c.in_ok-held.field-0 _ c.in-Some.held c.read.new.self c.in-Some.is c.in-Ok.ensures.kind c.in_ok-held.ensures.asked c.way_over-writable.ensures.asked

pub returns-in-Err-clause-failed : goal.returns-in-Err-clause-failed
returns-in-Err-clause-failed g c = unread _ _ _ _ c.in_ok-held.field-0 c.in-Some.held c.read.new.self c.in-Some.is c.in-Err.ensures.same c.in_ok-held.ensures.asked c.let_go.ensures.asked

pub returns-in-Ok-clause-text : goal.returns-in-Ok-clause-text
returns-in-Ok-clause-text g c none some = read_of _ _ _ _ (of_found _ c.in_ok-held.field-0 c.in-Some.held c.in-Some.is c.in_ok-held.ensures.text) c.in-Ok.ensures.text
