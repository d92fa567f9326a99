use Rattle.std.proofs.Common.{◌≡◌, ◌∙◌, ℕ, List, Option, inl, inr, refl, sym, subst, ap}
use Rattle.endings.specs.FaultOutput.{StandardError}
use Rattle.endings.specs.Failure.{IsPrinted, status_of}
use Rattle.endings.specs.Held.{Held}
use Rattle.endings.specs.declared.failure.Failure.{Failure}
use Rattle.endings.specs.declared.failure.Failure.TheVariants.{Misplaced}
use Rattle.command_line.specs.declared.wanted.Wanted.{Wanted}
use Rattle.command_line.specs.Wanted.{unlogged}
use Rattle.request_values.specs.Change.{◌⇒◌}
use Rattle.request_values.specs.declared.request.Request.{Request}
use Rattle.request_values.specs.declared.request.Request.TheVariants.{Tape}
use Rattle.request_values.specs.declared.request.PrintRequest.TheVariants.{CheckInput}
use Rattle.request_values.specs.declared.request.TapeRequest.TheVariants.{Print}
use Rattle.requests.specs.Asked.{SystemTold}
use Rattle.requests.specs.Attempt.{IsAttempted}
use Rattle.requests.specs.Moment.{moment}
use Rattle.requests.specs.declared.attempted.Attempted.{Attempted}
use Rattle.ldaodt.specs.Answer.{IsLoggedIf, IsMisplaced, without_line}
use Rattle.ldaodt.specs.Misplaced.{IsOfPlace, names_at}
use Rattle.ldaodt.specs.Names.{IsOut, NamesTold}
use Rattle.ldaodt.proofs.program.program.Goals as goal
use Rattle.ldaodt.proofs.program.program.Goals.{in-Some, in-None}

-- of the check of the input nothing is said in a log
unlogged_check : (first : Option (List ℕ)) (wanted : Wanted) (ended : Attempted) (held held' : Held) → wanted ≡ unlogged (Tape (Print CheckInput)) → IsLoggedIf first wanted ended held held' → held' ≡ held
unlogged_check first wanted ended held held' is logged = subst (λ w. IsLoggedIf first w ended held held') is logged

-- the request of no words
checks_input : (wanted : Wanted) → wanted ≡ unlogged (Tape (Print CheckInput)) → wanted.request ≡ Tape (Print CheckInput)
checks_input wanted is = ap (λ w. w.request) is

-- a name that is out of place was told of
printed_misplaced : {D : Type 0} (names : NamesTold) (holds : D → List ℕ → Option (List ℕ)) (request : Request) (asked : SystemTold D) (held : Held) (err : StandardError) (failure : Failure) (ended : Attempted) → IsOfPlace (names_at request) failure
    → IsOut names failure → IsPrinted held.err err failure → ended ≡ without_line (status_of failure) → IsMisplaced names request (moment holds asked held) (moment holds asked (record held { err = err })) ended
printed_misplaced names holds request asked held err (Misplaced name place) ended of_place out told is =
    record { name = name; place = place; own = of_place; out = out; told = told; quiet = refl; ended_is = is }
printed_misplaced names holds request asked held err _ ended of_place out told is = absurd of_place

pub returns-after-misplaced-clause-checked : goal.returns-after-misplaced-clause-checked
returns-after-misplaced-clause-checked g c no_words =
    let wanted = c.in-Ok.wanted in
    let ended = c.match-misplaced.system.1 in
    let is : wanted ≡ unlogged (Tape (Print CheckInput)) = cc (c.in-Ok.ensures.none no_words) in
    let attempted : IsAttempted wanted.request (moment g.K.Disk.Disk.holds c.args.system c.args.streams.now ⇒ moment g.K.Disk.Disk.holds c.match-misplaced.system.0 c.match-misplaced.streams) ended =
    elim c.match-misplaced.branch [
      | in-Some w ↦ absurd (cc (sym w.in-Some.is ∙ c.misplaced.ensures.checked (checks_input wanted is)))
      | in-None w ↦ rw (w.system-is, w.streams-is) w.attempt.ensures
    ] in (
      ended,
      rw (unlogged_check g.F.FirstHeld.held wanted ended _ _ is c.log_if_wanted.ensures, sym (checks_input wanted is)) attempted,
      c.code.ensures,
    )

pub returns-after-misplaced-clause-answered : goal.returns-after-misplaced-clause-answered
returns-after-misplaced-clause-answered g c = (
  c.match-misplaced.system.1.status,
  inl (record {
    wanted = c.in-Ok.wanted;
    asked = c.in-Ok.ensures.some;
    between = c.match-misplaced.streams;
    ended = c.match-misplaced.system.1;
    tried = elim c.match-misplaced.branch [
      | in-Some w ↦ rw (w.system-is, w.streams-is, ← w.streams.view_is)
          (inr (printed_misplaced _ g.K.Disk.Disk.holds c.in-Ok.wanted.request _ _ _ w.in-Some.failure w.tell_misplaced.result w.in-Some.ensures.misplaced w.in-Some.ensures.out w.tell_misplaced.ensures.printed w.tell_misplaced.ensures.ended))
      | in-None w ↦ rw (w.system-is, w.streams-is) (inl w.attempt.ensures)
    ];
    logged = c.log_if_wanted.ensures;
    status_is = refl;
  }),
  c.code.ensures,
)
