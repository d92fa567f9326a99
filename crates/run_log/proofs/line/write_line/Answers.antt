use Rattle.std.proofs.Common.{◌≡◌, ℕ, List, [], ◌∷◌, ◌++◌, ◌∙◌, codes, sym, ap, subst, append_assoc}
use Rattle.std.proofs.lemmas.Result.{on_err_weaker, on_ok_weaker}
use Rattle.byte_io.specs.Text.{line}
use Rattle.endings.specs.FaultOutput.{StandardError, IsSaidInPart, IsSaidWhole}
use Rattle.run_log.specs.LogLine.{RunValue, end_text, log_line, request_text}
use Rattle.run_log.proofs.Said.{both_said, cut_before, cut_behind, on_any_err}
use Rattle.run_log.proofs.line.write_line.Goals as goal

-- what stands behind the time
abbrev asked : RunValue → List ℕ
asked run = codes " " ++ request_text run.request

-- what stands behind the names
abbrev end_of : RunValue → List ℕ
end_of run = line (end_text run)

-- the pieces of a line, one behind the other
pieces : (time : List ℕ) (run : RunValue) → time ++ (asked run ++ end_of run) ≡ log_line time run
pieces time run =
    let status = end_text run in
    sym (append_assoc time (codes " " ++ (request_text run.request ++ status)) (10 ∷ [])
    ∙ ap (λ (t : List ℕ). time ++ (codes " " ++ t)) (append_assoc (request_text run.request) status (10 ∷ [])))

time_cut : (a b : StandardError) (time : List ℕ) (run : RunValue) → IsSaidInPart a b time → IsSaidInPart a b (log_line time run)
time_cut a b time run cut = subst (IsSaidInPart a b) (pieces time run) (cut_before a b time (asked run ++ end_of run) cut)

request_cut : (a b d : StandardError) (time : List ℕ) (run : RunValue) → IsSaidWhole a b time → IsSaidInPart b d (asked run) → IsSaidInPart a d (log_line time run)
request_cut a b d time run first cut =
    subst (IsSaidInPart a d) (pieces time run) (cut_behind a b d time (asked run ++ end_of run) first (cut_before b d (asked run) (end_of run) cut))

end_cut : (a b d e : StandardError) (time : List ℕ) (run : RunValue) → IsSaidWhole a b time → IsSaidWhole b d (asked run) → IsSaidInPart d e (end_of run)
    → IsSaidInPart a e (log_line time run)
end_cut a b d e time run first second cut =
    subst (IsSaidInPart a e) (pieces time run) (cut_behind a b e time (asked run ++ end_of run) first (cut_behind b d e (asked run) (end_of run) second cut))

all_said : (a b d e : StandardError) (time : List ℕ) (run : RunValue) → IsSaidWhole a b time → IsSaidWhole b d (asked run) → IsSaidWhole d e (end_of run)
    → IsSaidWhole a e (log_line time run)
all_said a b d e time run first second last =
    subst (IsSaidWhole a e) (pieces time run) (both_said a b e time (asked run ++ end_of run) first (both_said b d e (asked run) (end_of run) second last))

pub returns-in_err-say-clause-err : goal.returns-in_err-say-clause-err
returns-in_err-say-clause-err g c =
    on_any_err c.from_residual.result _
    (time_cut _ _ c.args.time.now.items c.args.run.now (subst (IsSaidInPart _ _) c.deref.ensures.0 c.in_err-say.ensures.err))

pub returns-in_err-write_request-clause-err : goal.returns-in_err-write_request-clause-err
returns-in_err-write_request-clause-err g c =
    on_any_err c.from_residual-in_err-write_request.result _
    (request_cut _ _ _ c.args.time.now.items c.args.run.now (subst (IsSaidWhole _ _) c.deref.ensures.0 c.in_ok-say.ensures.ok)
    (subst (IsSaidInPart _ _) (ap (λ (r : RunValue). asked r) c.run.view_is) c.in_err-write_request.ensures.err))

pub returns-clause-ok : goal.returns-clause-ok
returns-clause-ok g c =
    on_ok_weaker c.say-2.result
    (λ said. all_said _ _ _ _ c.args.time.now.items c.args.run.now (subst (IsSaidWhole _ _) c.deref.ensures.0 c.in_ok-say.ensures.ok)
    (subst (IsSaidWhole _ _) (ap (λ (r : RunValue). asked r) c.run.view_is) c.in_ok-write_request.ensures.ok)
    (subst (IsSaidWhole _ _) (c.deref-2.ensures.0 ∙ c.line_end.ensures) said))
    c.say-2.ensures.ok

pub returns-clause-err : goal.returns-clause-err
returns-clause-err g c =
    on_err_weaker c.say-2.result
    (λ cut. end_cut _ _ _ _ c.args.time.now.items c.args.run.now (subst (IsSaidWhole _ _) c.deref.ensures.0 c.in_ok-say.ensures.ok)
    (subst (IsSaidWhole _ _) (ap (λ (r : RunValue). asked r) c.run.view_is) c.in_ok-write_request.ensures.ok)
    (subst (IsSaidInPart _ _) (c.deref-2.ensures.0 ∙ c.line_end.ensures) cut))
    c.say-2.ensures.err
