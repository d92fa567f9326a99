use Rattle.std.proofs.Common.{rules}
use Rattle.record_file.proofs.durable.DurableWriterLastingWrite.make_last.Goals as goal

pub returns-clause-lasts : goal.returns-clause-lasts
returns-clause-lasts g c = search rules
