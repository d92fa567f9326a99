use Rattle.std.proofs.lemmas.Result.{IfErr-weaker}
use Rattle.load_tests.proofs.told_bench.load_in_order.Goals as goal

pub returns : goal.returns
returns g c = record { fault = IfErr-weaker c.load.result _ _ (λ fault why. why.fault) c.load.ensures.err }
