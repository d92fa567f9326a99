-- Where a life may stop.
use Rattle.std.proofs.Common.{◌≡◌, ℕ, ◌+◌, ◌-◌, ◌≤◌, Bool, true, false, List, [], ◌∷◌, ◌++◌, take, drop, Option, Some, None, inl, inr, refl, arith, ap, sym, subst, ◌∙◌, append-nil, append_assoc}
use Rattle.std.proofs.Math.Seq.{take-add}
use Rattle.tape_image.specs.Plan.{PlanValue}
use Rattle.tape_image.specs.Word.{WordValue}
use Rattle.host_core.specs.Core.{Core}
use Rattle.host_devices.specs.declared.item.Item.{Item}
use Rattle.host_devices.specs.declared.item.Item.TheVariants.{Sent, Heard as Came}
use Rattle.host_devices.specs.Dialogue.{LacksKey, said, dialogue}
use Rattle.engine.specs.declared.stop.Cut.TheVariants.{LineFailed, TurnsOver}
use Rattle.engine.specs.declared.stop.Stop.TheVariants.{Ended, KeepFailed, CutOff}
use Rattle.load_engine.specs.Driven.{IsSaid}
use Rattle.load_engine.specs.Driving.{LoadStop}
use Rattle.load_engine.proofs.Sessions.{core_is, dialogue_join, session_said}
use Rattle.load_record.specs.declared.version.Version.TheVariants.{Second}
use Rattle.load_record.specs.Lines.{header}
use Rattle.load_record.specs.RecordText.{mark_text, open_run, pieces, record_text, run_over, second_piece, words_text}
use Rattle.load_record.proofs.Pieces.{pieces-append, words_text-more, words_text-of}
use Rattle.load_lives.specs.Lives.{Life, IsLeft}
use Rattle.load_lives.specs.Stops.{WentOut, SessionsAreLives, FrontsAreStopped, IsBeginning, IsStoppedAt, RecordsAreFronts, decided, turns_of}
use Rattle.load_lives.proofs.LastTurns.{Broken, broken}
use Rattle.load_lives.proofs.LastTurns.Broken.{between_turns, in_turn}

-- ---- what the engine says

-- what was said is all, or all but the last key
lacking : (all told : List Item) → LacksKey all told → (unsent : Option ℕ) × (all ≡ told ++ said unsent)
lacking all told (key, is) = (Some key, is)

all_said : (all told : List Item) → told ≡ all → (unsent : Option ℕ) × (all ≡ told ++ said unsent)
all_said all told is = (None, sym is ∙ sym (append-nil told))

unsent_of : (stop : Option LoadStop) (all told : List Item) → IsSaid stop all told → (unsent : Option ℕ) × (all ≡ told ++ said unsent)
unsent_of None all told s = all_said all told s
unsent_of (Some (Ended end)) all told s = all_said all told s
unsent_of (Some (CutOff TurnsOver)) all told s = all_said all told s
unsent_of (Some (CutOff (LineFailed fault))) all told (inl s) = all_said all told s
unsent_of (Some (CutOff (LineFailed fault))) all told (inr s) = lacking all told s
unsent_of (Some (KeepFailed fault)) all told s = lacking all told s

pub unsent_out : (stop : Option LoadStop) (all told items : List Item) → IsSaid stop all told → WentOut all told items → (unsent : Option ℕ) × (all ≡ items ++ said unsent)
unsent_out stop all told items s (inl same) = subst (λ (list : List Item). (unsent : Option ℕ) × (all ≡ list ++ said unsent)) (sym same) (unsent_of stop all told s)
unsent_out stop all told items s (inr whole) = all_said all items whole

pub sessions_are_lives : SessionsAreLives
sessions_are_lives load was passed left =
    let run = load.run in
    let session = was.driven.session in
    let turns = turns_of run load.stop in
    let core = core_is run.turns turns run.before run.after session in
    let u = unsent_out load.stop (decided was.driven) session.said run.items (session_said run.turns turns run.before run.after session) was.out in
    let life : Life = record { careful = run.careful; patience = run.patience; progress = run.progress; heard = session.heard; items = run.items; unsent = u.0 } in
    record {
      life = life;
      core = sym core;
      items = refl;
      is_life = record {
        patient = was.driven.patient;
        goes_on = was.driven.goes_on;
        stopped = u.1;
        line = passed;
        left = subst (λ (c : Core). IsLeft run.plan run.progress c run.items load.found.text load.left.text) core left;
      };
    }

-- ---- a host that is killed

pub fronts_are_stopped : FrontsAreStopped
fronts_are_stopped core things front rest is = stopped (broken core things front rest is)
  where
    stopped : Broken core things front rest → IsStoppedAt core things front
    stopped (between_turns first more split whole left) =
        record { fewer = first; more = more; unsent = None; heard = split; says = sym whole ∙ sym (append-nil front) }
    stopped (in_turn first last more key split cut sends left) = record {
      fewer = first ++ last ∷ [];
      more = more;
      unsent = Some key;
      heard = split ∙ sym (append_assoc first (last ∷ []) more);
      says = dialogue_join core first (last ∷ []) ∙ (ap (λ k. dialogue core first ++ Came last ∷ (said k ++ [])) sends
          ∙ (sym (append_assoc (dialogue core first) (Came last ∷ []) (Sent key ∷ [])) ∙ ap (λ list. list ++ Sent key ∷ []) (sym cut)));
    }

-- ---- what the file holds

words_front : (plan : PlanValue) (k more : ℕ) → k ≤ more → IsBeginning (words_text Second plan k) (words_text Second plan more)
words_front plan k more le =
    let head : List ℕ = header Second ++ 10 ∷ [] in
    let next : List WordValue = take (more - k) (drop k plan.words) in
    let sum : k + (more - k) ≡ more = omega (arith, le) in
    let split : take more plan.words ≡ take k plan.words ++ next = ap (λ n. take n plan.words) (sym sum) ∙ take-add k (more - k) plan.words in
    let later : List ℕ = pieces Second (run_over Second None (take k plan.words)) next in (
      later,
      ap (λ text. text ++ later) (words_text-of plan k) ∙ (append_assoc head (pieces Second None (take k plan.words)) later
          ∙ (ap (λ text. head ++ text) (sym (ap (pieces Second None) split ∙ pieces-append Second None (take k plan.words) next)) ∙ sym (words_text-of plan more))),
    )

front_then : (front text more : List ℕ) → IsBeginning front text → IsBeginning front (text ++ more)
front_then front text more f = (f.0 ++ more, sym (append_assoc front f.0 more) ∙ ap (λ list. list ++ more) f.1)

front_behind : (text front more all : List ℕ) → IsBeginning front more → text ++ more ≡ all → IsBeginning (text ++ front) all
front_behind text front more all f is = (f.0, append_assoc text front f.0 ∙ (ap (λ list. text ++ list) f.1 ∙ is))

fewer_front : (plan : PlanValue) (k more : ℕ) (mark : Bool) → k ≤ more → IsBeginning (record_text Second plan k false) (record_text Second plan more mark)
fewer_front plan k more false le = words_front plan k more le
fewer_front plan k more true le = front_then (words_text Second plan k) (words_text Second plan more) (mark_text (open_run Second plan more)) (words_front plan k more le)

pub records_are_fronts : RecordsAreFronts
records_are_fronts = record {
  fewer = fewer_front;
  word = λ plan k word front is f. front_behind (words_text Second plan k) front (second_piece (open_run Second plan k) word) (words_text Second plan (k + 1)) f (sym (words_text-more Second plan k word is));
  mark = λ plan k front f. front_behind (words_text Second plan k) front (mark_text (open_run Second plan k)) (words_text Second plan k ++ mark_text (open_run Second plan k)) f refl;
}
