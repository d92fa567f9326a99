-- Any number of looks and trials over one honest line.
use Rattle.std.proofs.Common.{◌≡◌, ℕ, ◌+◌, ◌≤◌, List, [], ◌∷◌, ◌++◌, inl, refl, arith, sym, subst, ◌∙◌, append_assoc, append-nil}
use Rattle.std.specs.Prelude.{All}
use Rattle.std.proofs.lemmas.List.Elements.{All-nil, All-cons, All-head, All-tail, All-weaker}
use Rattle.odt_machine.specs.Machine.{Machine}
use Rattle.host_devices.specs.declared.item.Item.{Item}
use Rattle.host_devices.specs.Dialogue.{keys_of}
use Rattle.honest_line.specs.Honest.{IsHonest}
use Rattle.reading_core.specs.declared.phase.Phase.{Phase}
use Rattle.reading_core.specs.declared.phase.Phase.TheVariants.{Settle, Sync, Address, Slash, Before, Value, Close, Refused, Ended}
use Rattle.reading_core.specs.declared.phase.End.TheVariants.{Complete, GaveUp, NoWord}
use Rattle.reading_core.specs.Reader.{Manner, Reader, begun, begun_in, once}
use Rattle.reading_core.proofs.Turns.{fresh_kept}
use Rattle.reading_core.specs.Laws.{led}
use Rattle.looking_law.specs.Belief.{IsReadyMachine, IsTrueReading, MayLook, dialogue}
use Rattle.looking_law.specs.Harmless.{HasCause}
use Rattle.looking_law.proofs.Believed.{honest_are_true, leave_ready}
use Rattle.trial_core.specs.TrialTable.{IsTrying}
use Rattle.trial_core.specs.Trial.{begun_trial}
use Rattle.looking_law.specs.Splitting.{BeginsByListening, EndsTidily, PartsAt}
use Rattle.looking_law.specs.Runs.{AreHarmless, AreHarmlessBefore, AreTold, IsBorneOut, MayBeSuchAHost, Look, LooksAndTrialsDoNoHarm, OthersMayFollow, Run, Try, dialogue_of}
use Rattle.looking_law.specs.Trying.{IsLeftAlone, IsToldOf, trial_dialogue}
use Rattle.looking_law.proofs.Keys.{store_nothing}
use Rattle.looking_law.proofs.Splits.{lines_split}
use Rattle.looking_law.proofs.Tidy.{trials_tidy}
use Rattle.looking_law.proofs.Told.{both_begin, reading_begins, readings_tidy, told_begins, told_honest, trial_begins}
use Rattle.looking_law.proofs.Trials.{begins_kept, only_try}

-- ---- more losses pay as well

more_pay : (phase : Phase) (memory : List ℕ) (patience lost more : ℕ) → lost ≤ more → HasCause phase memory patience lost → HasCause phase memory patience more
more_pay (Ended Complete) memory patience lost more le cause = tt
more_pay (Ended GaveUp) memory patience lost more le cause = omega (arith, le, cause)
more_pay (Ended (NoWord a)) memory patience lost more le cause = cause
more_pay Settle memory patience lost more le cause = tt
more_pay (Sync place) memory patience lost more le cause = tt
more_pay (Address place) memory patience lost more le cause = tt
more_pay Slash memory patience lost more le cause = tt
more_pay Before memory patience lost more le cause = tt
more_pay (Value value place) memory patience lost more le cause = tt
more_pay (Close place) memory patience lost more le cause = tt
more_pay (Refused place) memory patience lost more le cause = tt

still_true : (memory : List ℕ) (r : Reader) (keys : List ℕ) (lost more : ℕ) → lost ≤ more → IsTrueReading memory r memory keys lost → IsTrueReading memory r memory keys more
still_true memory r keys lost more le t =
    record { same = t.same; read = t.read; looks = t.looks; spent = omega (arith, le, t.spent); foreign = t.foreign; cause = more_pay r.phase memory r.patience lost more le t.cause }

true_before : (before now : List ℕ) (r : Reader) (keys : List ℕ) (lost : ℕ) → IsTrueReading before r now keys (lost + 0) → IsTrueReading before r before keys lost
true_before before now r keys lost t =
    subst (λ memory. IsTrueReading before r memory keys lost) t.same (subst (λ n. IsTrueReading before r now keys n) (none_more lost) t)
  where
    none_more : (n : ℕ) → n + 0 ≡ n
    none_more n = omega arith

borne_out : (memory : List ℕ) (lost more : ℕ) → lost ≤ more → (run : Run) → IsBorneOut memory lost run → IsBorneOut memory more run
borne_out memory lost more le (Look addresses patience heard) t = still_true memory _ _ lost more le t
borne_out memory lost more le (Try address old patience heard) only = only

-- ---- one run

pub may_begin_in : (manner : Manner) (addresses : List ℕ) (patience : ℕ) (machine : Machine) → IsReadyMachine machine → MayLook (begun_in manner addresses [] patience) machine
may_begin_in manner addresses patience machine ready = record {
  begun = refl;
  console = ready.console;
  stopped = ready.stopped;
  read = record { lies = λ i low. absurd (omega (arith, low)); holds = λ i low. absurd (omega (arith, low)) };
}

pub may_begin : (addresses : List ℕ) (patience : ℕ) (machine : Machine) → IsReadyMachine machine → MayLook (begun addresses [] patience) machine
may_begin addresses patience machine ready = may_begin_in once addresses patience machine ready

pub run_begins : (run : Run) → BeginsByListening (dialogue_of run)
run_begins (Look addresses patience heard) = reading_begins (begun addresses [] patience) heard
run_begins (Try address old patience heard) = trial_begins (begun_trial address old patience) heard

pub run_tidy : (run : Run) (told : List Item) (machine : Machine) → IsReadyMachine machine → MayBeSuchAHost run → IsToldOf (dialogue_of run) told → EndsTidily machine told
run_tidy (Look addresses patience heard) told machine ready is front =
    readings_tidy (begun addresses [] patience) heard told machine (fresh_kept addresses patience is.0 is.1) (may_begin addresses patience machine ready) front
run_tidy (Try address old patience heard) told machine ready is front = trials_tidy address old patience heard told machine front

-- what came of one run
pub record IsHarmless (machine : Machine) (run : Run) (lost : ℕ) (now : Machine) : Type 0 where
  pub ready : IsReadyMachine now
  pub memory : now.memory ≡ machine.memory
  pub learned : IsBorneOut machine.memory lost run

pub run_harmless : (run : Run) (machine now : Machine) (lost : ℕ) → IsReadyMachine machine → MayBeSuchAHost run → IsHonest machine (dialogue_of run) lost now → IsHarmless machine run lost now
run_harmless (Look addresses patience heard) machine now lost ready is honest =
    let r : Reader = begun addresses [] patience in
    let reader = fresh_kept addresses patience is.0 is.1 in
    let may = may_begin addresses patience machine ready in
    let t = honest_are_true r heard reader machine now lost may honest in
    record {
      ready = leave_ready r heard machine now lost reader may honest;
      memory = t.same;
      learned = true_before machine.memory now.memory (led r heard) (keys_of (dialogue r heard)) lost t;
    }
run_harmless (Try address old patience heard) machine now lost ready is honest =
    let only = only_try (begun_trial address old patience) heard (trial_dialogue (begun_trial address old patience) heard) (begins_kept address old patience is.0 is.1) (inl refl) in
    let alone : IsLeftAlone machine now = store_nothing machine now (trial_dialogue (begun_trial address old patience) heard) lost only honest in
    record { ready = record { console = alone.console ready.console; stopped = alone.stopped ready.stopped }; memory = alone.memory; learned = only }

-- ---- one after another

told_begin : (runs : List Run) (told : List Item) → AreTold runs told → BeginsByListening told
told_begin [] told none = subst BeginsByListening (sym none) tt
told_begin (run ∷ runs) told (first, rest, front, more, parts) =
    subst BeginsByListening (sym parts) (both_begin first rest (told_begins (dialogue_of run) first front (run_begins run)) (told_begin runs rest more))

joined : (machine b now : Machine) (run : Run) (runs : List Run) (lost_first lost_rest : ℕ) → IsHarmless machine run lost_first b → AreHarmless b runs lost_rest now → AreHarmless machine (run ∷ runs) (lost_first + lost_rest) now
joined machine b now run runs lost_first lost_rest first rest = record {
  ready = rest.ready;
  memory = rest.memory ∙ first.memory;
  learned = All-cons (IsBorneOut machine.memory (lost_first + lost_rest)) run runs (borne_out machine.memory lost_first (lost_first + lost_rest) (omega arith) run first.learned)
      (All-weaker (IsBorneOut machine.memory lost_rest) (IsBorneOut machine.memory (lost_first + lost_rest)) (borne_out machine.memory lost_rest (lost_first + lost_rest) (omega arith)) runs
      (subst (λ memory. All (IsBorneOut memory lost_rest) runs) first.memory rest.learned));
}

pub others_follow : OthersMayFollow
others_follow machine now [] told more lost ready are none begins honest = record {
  between = machine;
  lost_before = 0;
  lost_after = lost;
  before = record { ready = ready; memory = refl; learned = All-nil (IsBorneOut machine.memory 0) };
  after = subst (λ (items : List Item). IsHonest machine (items ++ more) lost now) none honest;
  losses = omega arith;
}
others_follow machine now (run ∷ runs) told more lost ready are (first, rest, front, rests, parts) begins honest =
    let split : PartsAt machine first (rest ++ more) lost now =
    lines_split machine now first (rest ++ more) lost (run_tidy run first machine ready (All-head MayBeSuchAHost run runs are) front) (both_begin rest more (told_begin runs rest rests) begins)
    (subst (λ items. IsHonest machine items lost now) (append_assoc first rest more) (subst (λ (items : List Item). IsHonest machine (items ++ more) lost now) parts honest)) in
    let here : IsHarmless machine run split.lost_before split.between =
    run_harmless run machine split.between split.lost_before ready (All-head MayBeSuchAHost run runs are) (told_honest (dialogue_of run) first machine split.between split.lost_before front split.before) in
    let there : AreHarmlessBefore split.between runs more split.lost_after now =
    others_follow split.between now runs rest more split.lost_after here.ready (All-tail MayBeSuchAHost run runs are) rests begins split.after in
    record {
      between = there.between;
      lost_before = split.lost_before + there.lost_before;
      lost_after = there.lost_after;
      before = joined machine split.between there.between run runs split.lost_before there.lost_before here there.before;
      after = there.after;
      losses = omega (arith, there.losses, split.losses);
    }

pub no_harm : LooksAndTrialsDoNoHarm
no_harm machine now runs told lost ready are tells honest =
    let all : AreHarmlessBefore machine runs [] lost now =
    others_follow machine now runs told [] lost ready are tells tt (subst (λ items. IsHonest machine items lost now) (sym (append-nil told)) honest) in
    let alone : IsLeftAlone all.between now = store_nothing all.between now [] all.lost_after (All-nil IsTrying) all.after in
    record {
      ready = record { console = alone.console all.before.ready.console; stopped = alone.stopped all.before.ready.stopped };
      memory = alone.memory ∙ all.before.memory;
      learned = All-weaker (IsBorneOut machine.memory all.lost_before) (IsBorneOut machine.memory lost) (borne_out machine.memory all.lost_before lost (omega (arith, all.losses))) runs all.before.learned;
    }
