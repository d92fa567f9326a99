use Rattle.std.proofs.Common.{◌≡◌, ◌++◌, [], ◌∙◌, ℕ, List, codes, refl, sym, subst, append-nil}
use Rattle.std.proofs.lemmas.Result.{on_err_weaker, on_ok_weaker}
use Rattle.endings.specs.Failure.{shown_name, stale_names}
use Rattle.endings.specs.FaultOutput.{StandardError}
use Rattle.endings.proofs.Lines.{IsSaidBut, all_said, on_any_err, none_said, piece_said, piece_cut}
use Rattle.endings.proofs.printing.write_twice.Goals as goal

-- both, before anything is said
unsaid : (a : StandardError) (name : List ℕ) → IsSaidBut a a (stale_names name) (shown_name name ++ (codes ".part says: remove " ++ shown_name name))
unsaid a name = none_said a (stale_names name) (stale_names name) refl

pub returns-in_err-write_name-clause-err : goal.returns-in_err-write_name-clause-err
returns-in_err-write_name-clause-err g c =
    let name = c.args.name.now in
    on_any_err c.from_residual.result _
    (piece_cut _ _ _ (stale_names name) (shown_name name) (codes ".part says: remove " ++ shown_name name) (unsaid (g.E.FaultOutput.said c.args.err.now) name) c.in_err-write_name.ensures.err)

pub returns-in_err-say-clause-err : goal.returns-in_err-say-clause-err
returns-in_err-say-clause-err g c =
    let name = c.args.name.now in
    on_any_err c.from_residual-in_err-say.result _
    (piece_cut _ _ _ (stale_names name) (codes ".part says: remove ") (shown_name name)
    (piece_said _ _ _ (stale_names name) (shown_name name) (codes ".part says: remove " ++ shown_name name) (unsaid (g.E.FaultOutput.said c.args.err.now) name) c.in_ok-write_name.ensures.ok)
    c.in_err-say.ensures.err)

pub returns-clause-ok : goal.returns-clause-ok
returns-clause-ok g c =
    let name = c.args.name.now in
    on_ok_weaker c.write_name-2.result
    (λ last. all_said _ _ _
    (piece_said _ _ _ (stale_names name) (shown_name name) []
    (subst (IsSaidBut _ _ (stale_names name)) (sym (append-nil (shown_name name)))
    (piece_said _ _ _ (stale_names name) (codes ".part says: remove ") (shown_name name)
    (piece_said _ _ _ (stale_names name) (shown_name name) (codes ".part says: remove " ++ shown_name name) (unsaid (g.E.FaultOutput.said c.args.err.now) name) c.in_ok-write_name.ensures.ok)
    c.in_ok-say.ensures.ok))
    last))
    c.write_name-2.ensures.ok

pub returns-clause-err : goal.returns-clause-err
returns-clause-err g c =
    let name = c.args.name.now in
    on_err_weaker c.write_name-2.result
    (λ cut. piece_cut _ _ _ (stale_names name) (shown_name name) []
    (subst (IsSaidBut _ _ (stale_names name)) (sym (append-nil (shown_name name)))
    (piece_said _ _ _ (stale_names name) (codes ".part says: remove ") (shown_name name)
    (piece_said _ _ _ (stale_names name) (shown_name name) (codes ".part says: remove " ++ shown_name name) (unsaid (g.E.FaultOutput.said c.args.err.now) name) c.in_ok-write_name.ensures.ok)
    c.in_ok-say.ensures.ok))
    cut)
    c.write_name-2.ensures.err
