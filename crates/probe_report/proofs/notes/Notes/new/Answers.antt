use Rattle.std.proofs.Common.{rules}
use Rattle.probe_report.proofs.notes.Notes.new.Goals as goal

pub returns : goal.returns
returns c = search rules
