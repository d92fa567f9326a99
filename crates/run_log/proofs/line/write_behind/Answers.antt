use Rattle.std.proofs.Common.{codes}
use Rattle.std.proofs.lemmas.Result.{on_err_weaker, on_ok_weaker}
use Rattle.endings.specs.Failure.{shown_name}
use Rattle.run_log.proofs.Said.{both_said, cut_before, cut_behind, on_any_err}
use Rattle.run_log.proofs.line.write_behind.Goals as goal

pub returns-in_err-say-clause-err : goal.returns-in_err-say-clause-err
returns-in_err-say-clause-err g c = on_any_err c.from_residual.result _ (cut_before _ _ (codes " ") (shown_name c.args.name.now) c.in_err-say.ensures.err)

pub returns-clause-ok : goal.returns-clause-ok
returns-clause-ok g c =
    on_ok_weaker c.write_name.result
    (λ said. both_said _ _ _ (codes " ") (shown_name c.args.name.now) c.in_ok-say.ensures.ok said)
    c.write_name.ensures.ok

pub returns-clause-err : goal.returns-clause-err
returns-clause-err g c =
    on_err_weaker c.write_name.result
    (λ cut. cut_behind _ _ _ (codes " ") (shown_name c.args.name.now) c.in_ok-say.ensures.ok cut)
    c.write_name.ensures.err
