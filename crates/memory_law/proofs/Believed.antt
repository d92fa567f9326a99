-- What a run of a test over an honest line says of it.
use Rattle.std.proofs.Common.{◌≡◌, ℕ, ◌+◌, ◌≤◌, ◌/◌, ◌==◌, ◌&&◌, nat_lt, Bool, true, false, if◌then◌else◌, List, [], ◌∷◌, length, refl, arith, ap, sym, subst, ◌∙◌, length-set}
use Rattle.std.proofs.lemmas.Bool.Decides.{nat_tests}
use Rattle.odt_machine.specs.Machine.{Machine, IsMachine}
use Rattle.odt_machine.specs.Laws.{is_running}
use Rattle.host_core.specs.declared.heard.Heard.{Heard}
use Rattle.host_core.specs.Core.{Core, begun as load_begun}
use Rattle.host_core.specs.declared.phase.Phase.{Phase as LoadPhase}
use Rattle.host_core.specs.declared.phase.Phase.TheVariants.{Settle as LoadSettle, Ended as LoadEnded}
use Rattle.host_core.specs.declared.phase.End.TheVariants.{Loaded}
use Rattle.tape_image.specs.Plan.{PlanValue, IsPlan}
use Rattle.host_core.proofs.Turns.{begun_kept as load_begun_kept}
use Rattle.line_world.specs.Invariant.{IsKept, InPhase}
use Rattle.line_world.specs.Scene.{over, toll_of}
use Rattle.line_world.specs.Site.{site, ground}
use Rattle.line_world.specs.Wire.{Wire}
use Rattle.line_world.proofs.Opening.{opening_kept}
use Rattle.honest_line.specs.Honest.{resting}
use Rattle.honest_line.specs.Moves.{Passes}
use Rattle.honest_line.proofs.Wires.{passes_lost}
use Rattle.looking_law.specs.Belief.{IsReadyMachine}
use Rattle.looking_law.specs.Splitting.{BeginsByListening, EndsTidily}
use Rattle.looking_law.proofs.Believed.{stopped_with}
use Rattle.looking_law.proofs.Told.{told_begins, told_honest, told_tidy}
use Rattle.looking_law.proofs.Saying.{plan_for, words_for, is_plan}
use Rattle.memory_core.specs.declared.phase.Phase.{Phase}
use Rattle.memory_core.specs.declared.phase.Phase.TheVariants.{Settle, Sync, Address, Slash, Before, Value, Deposit, Return, Close, Ended}
use Rattle.memory_core.specs.declared.phase.End.{End}
use Rattle.memory_core.specs.declared.phase.End.TheVariants.{Complete, GaveUp, NoWord}
use Rattle.memory_core.specs.declared.stage.Stage.{Stage}
use Rattle.memory_core.specs.declared.stage.Stage.TheVariants.{Unseen, Once, Turned, Returned}
use Rattle.memory_core.specs.Invariant.{IsTester}
use Rattle.memory_core.specs.Laws.{led}
use Rattle.memory_core.specs.Tester.{Tester, address_under_way, begun, borrowed_at}
use Rattle.memory_law.specs.Testing.{dialogue, MayTest, IsAsItWas, HasCause, IsTrueTest, TestsAreTrue, TestsLeaveItReady, TestsMayStandInARow, UnsaidTestsAreTrue}
use Rattle.memory_law.proofs.Ahead.{ahead, ahead_asked, only_if}
use Rattle.memory_law.proofs.Kept.{AreCounted, IsKeptTest, MemoryIs, dialogue_kept}
use Rattle.memory_law.proofs.Mirror.{Account, core_for, phase_for, scene_for}

-- ---- the beginning

begun_phase : (memory : List ℕ) (more done : Bool) (a : ℕ) → (more ≡ true → done ≡ false) → (more ≡ false → done ≡ true) → (if 0 == length (words_for memory (only_if more a)) && true then LoadEnded Loaded else LoadSettle) ≡ phase_for Unseen (if done then Ended Complete else Settle)
begun_phase memory true true a some none = absurd (cc (some refl))
begun_phase memory true false a some none = refl
begun_phase memory false true a some none = refl
begun_phase memory false false a some none = absurd (cc (none refl))

some_more : (n : ℕ) → nat_lt 0 n ≡ true → (n == 0) ≡ false
some_more n e = grind (arith, nat_tests)

none_more : (n : ℕ) → nat_lt 0 n ≡ false → (n == 0) ≡ true
none_more n e = grind (arith, nat_tests)

at_phase : Core → LoadPhase → Core
at_phase core phase = record core { phase = phase }

begin_kept : (machine : Machine) (addresses waiting : List ℕ) (patience : ℕ) → IsTester (begun addresses patience) → IsMachine machine → is_running machine.mode ≡ false → length waiting ≤ 32 → IsKeptTest machine.memory (begun addresses patience) (resting machine waiting 0)
unfolding at_phase
begin_kept machine addresses waiting patience is console stopped few =
    let t : Tester = begun addresses patience in
    let plan : PlanValue = plan_for machine.memory (ahead t) in
    let right : IsPlan plan = is_plan machine.memory (ahead t) console.wide (ahead_asked t is.asked) in
    let account : Account = record { patience = patience; spent = 0; sent = 0; lost = 0 } in
    let same : load_begun plan 0 false patience ≡ core_for machine.memory t account =
    ap (at_phase (load_begun plan 0 false patience)) (begun_phase machine.memory (nat_lt 0 (length addresses)) (length addresses == 0) (address_under_way t) (some_more (length addresses)) (none_more (length addresses))) in
    record {
      account = account;
      kept = subst (λ core. IsKept (over core (resting machine waiting 0))) same
          (opening_kept machine plan 0 patience waiting console (load_begun_kept plan 0 false patience right (omega arith) is.long (λ e. absurd (cc e))) few stopped (λ i low. absurd (omega (arith, low))));
      tester = is;
      counted = record { spent_before = 0; lost_before = 0; spent = omega arith; patience = omega arith; lost = omega arith; paid = omega arith };
      memory_is = refl;
      words = λ i other low. absurd (omega (arith, low));
      wide = console.wide;
    }

-- ---- the end

as_it_was : (memory : List ℕ) (a : ℕ) (stage : Stage) (now : List ℕ) → MemoryIs memory a stage now → IsAsItWas memory (borrowed_at a stage) now
as_it_was memory a Unseen now at = at
as_it_was memory a (Once first) now at = at.0
as_it_was memory a (Turned old) now at = (at.lies, at.held, at.number, at.stands)
as_it_was memory a (Returned old turned) now at = (at.0.lies, at.0.held, at.0.number, at.0.stands)

as_long : (memory : List ℕ) (a : ℕ) (stage : Stage) (now : List ℕ) → MemoryIs memory a stage now → length now ≡ length memory
as_long memory a Unseen now at = ap length at
as_long memory a (Once first) now at = ap length at.0
as_long memory a (Turned old) now at = ap length at.stands ∙ length-set memory (a / 2) at.number
as_long memory a (Returned old turned) now at = ap length at.0.stands ∙ length-set memory (a / 2) at.0.number

-- what the loading host's invariant says of an end
ended : (memory : List ℕ) (t : Tester) (x : Wire) (end : End) → t.phase ≡ Ended end → (k : IsKeptTest memory t x) →
    InPhase (phase_for t.stage (Ended end)) (ground (scene_for memory t k.account x)) (site (scene_for memory t k.account x)) x.down x.up k.account.patience k.account.spent (toll_of (scene_for memory t k.account x))
ended memory t x end is k =
    subst (λ phase. InPhase (phase_for t.stage phase) (ground (scene_for memory t k.account x)) (site (scene_for memory t k.account x)) x.down x.up k.account.patience k.account.spent (toll_of (scene_for memory t k.account x))) is k.kept.phase

cause_of : (memory : List ℕ) (t : Tester) (x : Wire) (phase : Phase) → t.phase ≡ phase → (k : IsKeptTest memory t x) → HasCause phase memory t.patience x.lost
cause_of memory t x (Ended Complete) is k = tt
cause_of memory t x (Ended GaveUp) is k =
    let paid = (ended memory t x GaveUp is k).1 in
    let counted = k.counted in
    omega (arith, paid, counted.patience, counted.lost, counted.paid)
cause_of memory t x (Ended (NoWord a)) is k =
    let past = (ended memory t x (NoWord a) is k).1 in
    omega (arith, past, as_long memory (address_under_way t) t.stage x.machine.memory k.memory_is)
cause_of memory t x Settle is k = tt
cause_of memory t x (Sync place) is k = tt
cause_of memory t x (Address visit place) is k = tt
cause_of memory t x (Slash visit) is k = tt
cause_of memory t x (Before visit) is k = tt
cause_of memory t x (Value visit value place) is k = tt
cause_of memory t x (Deposit place) is k = tt
cause_of memory t x (Return place) is k = tt
cause_of memory t x (Close place) is k = tt

all_paid : (t : Tester) (x : Wire) (a : Account) → AreCounted t x a → a.spent ≤ a.lost → t.spent ≤ x.lost
all_paid t x a counted few = omega (arith, few, counted.spent, counted.lost, counted.paid)

true_of : (memory : List ℕ) (t : Tester) (x : Wire) → IsKeptTest memory t x → IsTrueTest memory t x.machine.memory x.lost
true_of memory t x k = record {
  memory = as_it_was memory (address_under_way t) t.stage x.machine.memory k.memory_is;
  words = k.words;
  spent = all_paid t x k.account k.counted k.kept.spent;
  cause = cause_of memory t x t.phase refl k;
}

-- ---- the whole dialogue

dialogue_true : (t : Tester) (things : List Heard) (machine : Machine) (waiting : List ℕ) (end : Wire) → IsTester t → MayTest t machine → length waiting ≤ 32 → Passes (resting machine waiting 0) (dialogue t things) end → IsKeptTest machine.memory (led t things) end
dialogue_true t things machine waiting end is may few passes =
    dialogue_kept machine.memory things t (resting machine waiting 0) end passes
    (subst (λ s. IsKeptTest machine.memory s (resting machine waiting 0)) (sym may.begun)
    (begin_kept machine t.addresses waiting t.patience (subst IsTester may.begun is) may.console may.stopped few))

none_lost : (n : ℕ) → n ≡ n + 0
none_lost n = omega arith

pub tests_true : TestsAreTrue
tests_true t things is machine now lost may honest =
    subst (λ n. IsTrueTest machine.memory (led t things) now.memory n) (honest.lost_is ∙ none_lost lost)
    (subst (λ (m : Machine). IsTrueTest machine.memory (led t things) m.memory honest.end.lost) honest.machine_is
    (true_of machine.memory (led t things) honest.end (dialogue_true t things machine honest.waiting honest.end is may honest.few honest.passes)))

pub left_ready : TestsLeaveItReady
left_ready t things machine now lost is may honest =
    let left : IsKeptTest machine.memory (led t things) honest.end = dialogue_true t things machine honest.waiting honest.end is may honest.few honest.passes in
    subst IsReadyMachine honest.machine_is record { console = left.kept.machine; stopped = stopped_with honest.end.machine.mode left.kept.running }

turned : (n : ℕ) → 1 + n ≡ n + 1
turned n = omega arith

pub unsaid_true : UnsaidTestsAreTrue
unsaid_true t things items key is all machine now lost may honest =
    subst (λ n. IsTrueTest machine.memory (led t things) now.memory n) (ap (λ n. 1 + n) honest.lost_is ∙ turned lost)
    (subst (λ (m : Machine). IsTrueTest machine.memory (led t things) m.memory (1 + honest.end.lost)) honest.machine_is
    (true_of machine.memory (led t things) (record honest.end { lost = 1 + honest.end.lost })
    (dialogue_true t things machine honest.waiting (record honest.end { lost = 1 + honest.end.lost }) is may honest.few
    (subst (λ list. Passes (resting machine honest.waiting 0) list (record honest.end { lost = 1 + honest.end.lost })) (sym all) (passes_lost items key (resting machine honest.waiting 0) honest.end honest.passes)))))

-- ---- among others on one line

may_test : (t : Tester) (machine : Machine) → t ≡ begun t.addresses t.patience → IsReadyMachine machine → MayTest t machine
may_test t machine begins ready = record { begun = begins; console = ready.console; stopped = ready.stopped }

test_begins : (t : Tester) (things : List Heard) → BeginsByListening (dialogue t things)
test_begins t [] = tt
test_begins t (heard ∷ more) = tt

test_tidy : (t : Tester) (things : List Heard) (machine : Machine) → IsTester t → MayTest t machine → EndsTidily machine (dialogue t things)
test_tidy t things machine is may waiting end few passes =
    let left : IsKeptTest machine.memory (led t things) end = dialogue_true t things machine waiting end is may few passes in
    record { one_way = left.kept.one_way; few = left.kept.few }

pub in_a_row : TestsMayStandInARow
in_a_row t things told is begins front = record {
  begins = told_begins (dialogue t things) told front (test_begins t things);
  tidy = λ machine ready. told_tidy (dialogue t things) told machine front (test_tidy t things machine is (may_test t machine begins ready));
  ready = λ machine now lost ready honest. left_ready t things machine now lost is (may_test t machine begins ready) (told_honest (dialogue t things) told machine now lost front honest);
}
