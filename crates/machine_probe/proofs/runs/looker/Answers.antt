use Rattle.std.proofs.Common.{◌≡◌, List, [], IfOk, subst}
use Rattle.reading_core.specs.Reader.{Reader, begun}
use Rattle.machine_probe.proofs.Joins.{one_between}
use Rattle.machine_probe.proofs.runs.looker.Goals as goal

pub returns-clause-begun : goal.returns-clause-begun
returns-clause-begun c = subst (λ (list : List _). IfOk c.of_range.result (λ (core : Reader). core ≡ begun list [] c.args.options.patience)) (one_between c.args.options.address) c.of_range.ensures.begun
