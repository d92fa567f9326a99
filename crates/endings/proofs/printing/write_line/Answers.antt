use Rattle.std.proofs.Common.{◌≡◌, ◌++◌, [], ◌∙◌, ℕ, List, codes, sym, subst, append-nil}
use Rattle.std.proofs.lemmas.Result.{on_err_weaker}
use Rattle.endings.specs.declared.failure.Failure.{Failure}
use Rattle.endings.specs.Failure.{failure_words, failure_name, failure_end, fault_line}
use Rattle.endings.specs.FaultOutput.{StandardError}
use Rattle.endings.proofs.Lines.{IsSaidBut, on_any_err, none_said, piece_said, piece_cut, line_pieces}
use Rattle.endings.proofs.printing.write_line.Goals as goal

-- the line, before any of its three pieces is said
unsaid : (a : StandardError) (f : Failure) (words : List ℕ) → words ≡ codes "ldaodt: " ++ failure_words f → IsSaidBut a a (fault_line f) (words ++ (failure_name f ++ failure_end f))
unsaid a f words is =
    none_said a (fault_line f) (words ++ (failure_name f ++ failure_end f))
    (subst (λ ws. fault_line f ≡ ws ++ (failure_name f ++ failure_end f)) (sym is) (line_pieces (codes "ldaodt: ") (failure_words f) (failure_name f) (failure_end f)))

pub returns-in_err-say-clause-err : goal.returns-in_err-say-clause-err
returns-in_err-say-clause-err g c =
    let at = g.E.FaultOutput.said in
    on_any_err c.from_residual.result _
    (piece_cut _ _ _ (fault_line c.args.failure) c.deref.result.now (failure_name c.args.failure ++ failure_end c.args.failure)
    (unsaid (at c.args.err.now) c.args.failure c.deref.result.now (c.deref.ensures.0 ∙ c.line_words.ensures.words))
    c.in_err-say.ensures.err)

pub returns-in_err-write_shown_name-clause-err : goal.returns-in_err-write_shown_name-clause-err
returns-in_err-write_shown_name-clause-err g c =
    let at = g.E.FaultOutput.said in
    on_any_err c.from_residual-in_err-write_shown_name.result _
    (piece_cut _ _ _ (fault_line c.args.failure) (failure_name c.args.failure) (failure_end c.args.failure)
    (piece_said _ _ _ (fault_line c.args.failure) c.deref.result.now (failure_name c.args.failure ++ failure_end c.args.failure)
    (unsaid (at c.args.err.now) c.args.failure c.deref.result.now (c.deref.ensures.0 ∙ c.line_words.ensures.words))
    c.in_ok-say.ensures.ok)
    c.in_err-write_shown_name.ensures.err)

pub returns-clause-err : goal.returns-clause-err
returns-clause-err g c =
    let at = g.E.FaultOutput.said in
    on_err_weaker c.say-2.result
    (λ cut. piece_cut _ _ _ (fault_line c.args.failure) (failure_end c.args.failure) []
    (subst (IsSaidBut _ _ (fault_line c.args.failure)) (sym (append-nil (failure_end c.args.failure)))
    (piece_said _ _ _ (fault_line c.args.failure) (failure_name c.args.failure) (failure_end c.args.failure)
    (piece_said _ _ _ (fault_line c.args.failure) c.deref.result.now (failure_name c.args.failure ++ failure_end c.args.failure)
    (unsaid (at c.args.err.now) c.args.failure c.deref.result.now (c.deref.ensures.0 ∙ c.line_words.ensures.words))
    c.in_ok-say.ensures.ok)
    c.in_ok-write_shown_name.ensures.ok))
    cut)
    (rw (c.line_end.ensures) at c.say-2.ensures.err)
