use Rattle.std.proofs.Common.{rules}
use Rattle.record_file.proofs.disk_record.begun.Goals as goal

pub returns-clause-written : goal.returns-clause-written
returns-clause-written g c = search rules

pub returns-clause-begun : goal.returns-clause-begun
returns-clause-begun g c = record { file = c.args.file; written = search rules; lasts = search rules; knows = search rules; sound = search rules }
