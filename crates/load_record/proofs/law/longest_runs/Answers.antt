use Rattle.load_record.proofs.LongestRuns.{longest}
use Rattle.load_record.proofs.law.longest_runs.Goals as goal

pub returns : goal.returns
returns c = λ plan k. longest plan k
