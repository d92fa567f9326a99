use Rattle.load_record.specs.declared.version.Version.TheVariants.{First}
use Rattle.load_record.proofs.Runs.{torn_longest}
use Rattle.load_record.proofs.reader.torn_words.Goals as goal

pub returns-in-First : goal.returns-in-First
returns-in-First c = rw c.in-First.is (torn_longest First c.args.next.now c.args.torn.now)
