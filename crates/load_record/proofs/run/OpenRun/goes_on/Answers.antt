use Rattle.std.proofs.Common.{rules}
use Rattle.load_record.proofs.run.OpenRun.goes_on.Goals as goal

pub returns-then-self-lt-LONGEST_RUN : goal.returns-then-self-lt-LONGEST_RUN
returns-then-self-lt-LONGEST_RUN c = search rules
