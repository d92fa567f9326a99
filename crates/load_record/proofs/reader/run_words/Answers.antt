use Rattle.load_record.proofs.Holdings.{run_found, run_not_found}
use Rattle.load_record.proofs.reader.run_words.Goals as goal

pub returns-then-line-count : goal.returns-then-line-count
returns-then-line-count c = run_found _ _ _ c.words_begun-count.ensures c.if-line-count.true

pub returns-else-line-count : goal.returns-else-line-count
returns-else-line-count c = run_not_found _ _ _ c.words_begun-count.ensures c.if-line-count.false
