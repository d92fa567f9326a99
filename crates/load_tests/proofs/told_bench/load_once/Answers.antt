use Rattle.std.proofs.lemmas.Result.{IfOk-weaker}
use Rattle.load_tests.proofs.told_bench.load_once.Goals as goal

pub returns : goal.returns
returns g c = record { reported = IfOk-weaker c.load.result _ _ (λ outcome loaded. loaded.reported) c.load.ensures.ok }
