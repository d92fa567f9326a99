-- What a request came to, and what was told of it.
use Rattle.std.proofs.Common.{◌≡◌, ◌∙◌, ℕ, List, Option, Bool, Result, Ok, Err, IfOk, IfErr, inl, inr, ap, sym, subst}
use Rattle.endings.specs.declared.failure.Failure.{Failure}
use Rattle.endings.specs.declared.status.Status.{Status}
use Rattle.endings.specs.Failure.{is_unheard}
use Rattle.endings.specs.SystemReason.{IsPrintedWithReason}
use Rattle.endings.specs.FaultOutput.{StandardError}
use Rattle.endings.specs.Held.{Held}
use Rattle.request_values.specs.Change.{◌⇒◌}
use Rattle.request_values.specs.declared.request.Request.{Request}
use Rattle.request_values.specs.Request.{only_prints}
use Rattle.requests.specs.Asked.{SystemTold}
use Rattle.requests.specs.Attempt.{IsAttempted, IsDone, IsEndOf, IsFailed, IsOver}
use Rattle.requests.specs.ChangedLine.{IsChangeTold}
use Rattle.requests.specs.Moment.{Moment, moment}

-- the streams held this before standard error was told anything
before_telling : (before : Moment) (held last : Held) → held.err ≡ before.held.err → last ≡ record held { err = last.err } → record last { err = before.held.err } ≡ held
before_telling before held last quiet told =
    ap (λ (h : Held). record h { err = before.held.err }) told ∙ ap (λ (e : StandardError). record held { err = e }) (sym quiet)

over : {D : Type 0} (holds : D → List ℕ → Option (List ℕ)) (request : Request) (before : Moment) (asked : SystemTold D) (held last : Held) (outcome : Result Status Failure) (status : Status) (prints : Bool)
    → prints ≡ only_prints request → IfOk outcome (IsDone request (before ⇒ moment holds asked held)) → IfErr outcome (IsFailed request (before ⇒ moment holds asked held))
    → held.err ≡ before.held.err → IsEndOf prints outcome (held ⇒ last) status → IsOver request (before ⇒ moment holds asked last) status
over holds request before asked held last (Ok ended) status prints p ok err quiet end = inl (record {
  done = subst (λ h. IsDone request (before ⇒ moment holds asked h) status) (sym end.0) (subst (IsDone request (before ⇒ moment holds asked held)) (sym end.1) ok);
  quiet = ap (λ (h : Held). h.err) end.0 ∙ quiet;
})
over holds request before asked held last (Err failure) status prints p ok err quiet end = inr (record {
  failure = failure;
  failed = subst (λ h. IsFailed request (before ⇒ moment holds asked h) failure) (sym (before_telling before held last quiet end.0)) err;
  told = subst (λ b. IsPrintedWithReason (is_unheard b last.unread failure) before.held.err last.err failure) p
      (subst (λ b. IsPrintedWithReason (is_unheard prints b failure) before.held.err last.err failure) (sym (ap (λ (h : Held). h.unread) end.0))
      (subst (λ (e : StandardError). IsPrintedWithReason (is_unheard prints held.unread failure) e last.err failure) quiet end.1));
  status_is = end.2;
})

-- what a request came to, before it is told of
pub record CameTo {D : Type 0} (holds : D → List ℕ → Option (List ℕ)) (request : Request) (before : Moment) (came : SystemTold D × Result Status Failure) (held : Held) : Type 0 where
  pub ok : IfOk came.1 (IsDone request (before ⇒ moment holds came.0 held))
  pub err : IfErr came.1 (IsFailed request (before ⇒ moment holds came.0 held))
  pub quiet : held.err ≡ before.held.err

-- so it did where a command came to it
pub came_to : {D : Type 0} (holds : D → List ℕ → Option (List ℕ)) (request : Request) (before : Moment) (came command : SystemTold D × Result Status Failure) (held streams : Held) → came ≡ command → held ≡ streams
    → CameTo holds request before command streams → CameTo holds request before came held
came_to holds request before came command held streams same is so =
    subst (λ c. CameTo holds request before c held) (sym same) (subst (CameTo holds request before command) (sym is) so)

-- and behind that it is told of characters that came changed
pub told : {D : Type 0} (holds : D → List ℕ → Option (List ℕ)) (request : Request) (before : Moment) (came : SystemTold D × Result Status Failure) (held between last : Held) (status : Status) (prints : Bool) (count : ℕ)
    → prints ≡ only_prints request → CameTo holds request before came held → IsEndOf prints came.1 (held ⇒ between) status
    → last ≡ record between { err = last.err } → IsChangeTold request count between.err last.err
    → IsAttempted request (before ⇒ moment holds came.0 last) (record { status = status; changed = count })
told holds request before came held between last status prints count p so end others changed = record {
  between = between.err;
  over = subst (λ h. IsOver request (before ⇒ moment holds came.0 h) status) (sym (ap (λ (h : Held). record h { err = between.err }) others))
      (over holds request before came.0 held between came.1 status prints p so.ok so.err so.quiet end);
  changed = changed;
}
