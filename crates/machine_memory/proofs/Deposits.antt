-- What a load of one word leaves, over an honest line: no other word of memory is another one.
use Rattle.std.proofs.Common.{◌≡◌, ◌≢◌, ℕ, ◌+◌, ◌*◌, ◌/◌, ◌%◌, ◌<◌, ◌≤◌, Bool, true, false, cond, List, [], ◌∷◌, length, get_or, Option, Some, None, ◌⊎◌, inl, inr, refl, arith, ap, sym, subst, ◌∙◌, get_or-set_other, get_or-set_same, length-set}
use Rattle.std.specs.Prelude.{◌&&◌, IsSome, slice_index}
use Rattle.std.proofs.lemmas.Bool.{eq-eqb, ne_eqb}
use Rattle.std.proofs.lemmas.Grind.{same_number_lists}
use Rattle.std.specs.FinMap.{get}
use Rattle.tape_image.specs.Memory.{byte_of, half, top_of}
use Rattle.tape_image.specs.Plan.{IsPlan, PlanValue, given_byte}
use Rattle.tape_image.specs.Word.{WordValue, covers, whole_word}
use Rattle.tape_image.proofs.Halves.{halves_make_word}
use Rattle.odt_machine.specs.Machine.{Machine, stored, word_at}
use Rattle.host_core.specs.declared.heard.Heard.{Heard}
use Rattle.host_core.specs.declared.phase.End.TheVariants.{Loaded, Started, Uncertain, MaybeStarted, GaveUp, NoWord, WontHold}
use Rattle.host_core.specs.declared.phase.Phase.{Phase}
use Rattle.host_core.specs.declared.phase.Phase.TheVariants.{Settle, Sync, Address, Slash, Before, Value, Deposit, Return, Start, Go, Ended as Over}
use Rattle.host_core.specs.Core.{Core, begun, ended}
use Rattle.host_core.specs.Host.{IsHost, MarkFits}
use Rattle.host_core.specs.Laws.{led, replay}
use Rattle.host_core.proofs.Lives.{led_kept, led_plan}
use Rattle.host_devices.specs.declared.item.Item.{Item}
use Rattle.host_devices.specs.Dialogue.{dialogue}
use Rattle.engine.specs.declared.stop.Cut.TheVariants.{LineFailed, TurnsOver}
use Rattle.engine.specs.declared.stop.Stop.TheVariants as load
use Rattle.engine.specs.Session.{session_told}
use Rattle.engine.specs.Stopping.{TellsEnd}
use Rattle.load_engine.specs.Driven.{IsSaid}
use Rattle.load_engine.specs.Driving.{LoadStop, driving}
use Rattle.load_engine.proofs.Sessions.{core_is, session_said}
use Rattle.line_world.specs.Invariant.{IsKept, RunsWith}
use Rattle.line_world.specs.Promises.{HasCause}
use Rattle.line_world.specs.Safe.{OnlyImage}
use Rattle.line_world.specs.Scene.{over}
use Rattle.line_world.specs.Wire.{Wire}
use Rattle.line_world.proofs.Events.{kept_events}
use Rattle.line_world.proofs.Stores.{same_or}
use Rattle.honest_line.specs.Honest.{IsHonest, resting}
use Rattle.honest_line.specs.Moves.{Passes}
use Rattle.honest_line.specs.Trust.{MayBegin}
use Rattle.honest_line.proofs.Runs.{Leads, dialogue_leads}
use Rattle.honest_line.proofs.Trusted.{begin_kept, trustworthy}
use Rattle.looking_law.specs.Belief.{IsReadyMachine}
use Rattle.looking_law.specs.Parts.{LeavesReady}
use Rattle.looking_law.specs.Splitting.{BeginsByListening, EndsTidily}
use Rattle.looking_law.specs.Trying.{IsToldOf}
use Rattle.looking_law.proofs.Believed.{stopped_with}
use Rattle.looking_law.proofs.Told.{told_begins, told_honest, told_tidy}
use Rattle.machine_probe.specs.PuttingBack.{HoldsAgain, is_loaded}
use Rattle.machine_probe.proofs.PuttingBack.{again_of}
use Rattle.machine_memory.specs.declared.memory_options.MemoryOptions.{MemoryOptions}
use Rattle.machine_memory.specs.BusRuns.{IsDepositLed}
use Rattle.machine_memory.specs.Turns.{most_turns}

-- ---- memories of which one word differs

at_even : (memory : List ℕ) (b i : ℕ) → b / 2 ≡ i → b % 2 ≡ 0 → byte_of memory b ≡ slice_index memory i % 256
at_even memory b i place even =
    ap (λ k. half b (slice_index memory k)) place
    ∙ ap (λ t. cond {A = ℕ} t (slice_index memory i % 256) (slice_index memory i / 256)) (eq-eqb (b % 2) 0 even)

at_odd : (memory : List ℕ) (b i : ℕ) → b / 2 ≡ i → b % 2 ≡ 1 → byte_of memory b ≡ slice_index memory i / 256
at_odd memory b i place odd =
    ap (λ k. half b (slice_index memory k)) place
    ∙ ap (λ t. cond {A = ℕ} t (slice_index memory i % 256) (slice_index memory i / 256)) (ne_eqb (b % 2) 0 (λ e. omega (arith, odd, e)))

same_halves : (now before : ℕ) → now % 256 ≡ before % 256 → now / 256 ≡ before / 256 → now ≡ before
same_halves now before low high = sym (halves_make_word now) ∙ (ap (λ n. n + 256 * (now / 256)) low ∙ (ap (λ n. before % 256 + 256 * n) high ∙ halves_make_word before))

not_given : (address number b : ℕ) → b / 2 ≢ address / 2 → given_byte (whole_word address number ∷ []) b ≡ None
not_given address number b apart = ap (λ t. cond {A = Option ℕ} (t && covers b 65535) (Some (half b number)) None) (ne_eqb (address / 2) (b / 2) (λ e. apart (sym e)))

not_told : (byte : Option ℕ) (now before : ℕ) → byte ≡ None → (now ≡ before) ⊎ (byte ≡ Some now) → now ≡ before
not_told byte now before none (inl same) = same
not_told byte now before none (inr some) = absurd (cc (sym none ∙ some))

byte_same : (before now : List ℕ) (plan : PlanValue) (address number b : ℕ) → IsPlan plan → plan.words ≡ whole_word address number ∷ [] → OnlyImage before plan.image now → b < top_of before → b / 2 ≢ address / 2 → byte_of now b ≡ byte_of before b
byte_same before now plan address number b is words only low apart =
    not_told (get plan.image b) (byte_of now b) (byte_of before b) (is.image_of_words b ∙ (ap (λ (ws : List WordValue). given_byte ws b) words ∙ not_given address number b apart)) (only.bytes b low)

other_same : (before now : List ℕ) (plan : PlanValue) (address number i : ℕ) → IsPlan plan → plan.words ≡ whole_word address number ∷ [] → OnlyImage before plan.image now → i < length before → i ≢ address / 2 → slice_index now i ≡ slice_index before i
other_same before now plan address number i is words only low apart =
    let low_place : 2 * i / 2 ≡ i = omega arith in
    let high_place : (2 * i + 1) / 2 ≡ i = omega arith in
    same_halves (slice_index now i) (slice_index before i)
    (sym (at_even now (2 * i) i low_place (omega arith)) ∙ (byte_same before now plan address number (2 * i) is words only (omega (arith, low)) (λ e. apart (sym low_place ∙ e)) ∙ at_even before (2 * i) i low_place (omega arith)))
    (sym (at_odd now (2 * i + 1) i high_place (omega arith)) ∙ (byte_same before now plan address number (2 * i + 1) is words only (omega (arith, low)) (λ e. apart (sym high_place ∙ e)) ∙ at_odd before (2 * i + 1) i high_place (omega arith)))

only_word : (before now : List ℕ) (plan : PlanValue) (address number : ℕ) → IsPlan plan → plan.words ≡ whole_word address number ∷ [] → OnlyImage before plan.image now → now ≡ stored before address (word_at now address)
only_word before now plan address number is words only =
    same_number_lists now (stored before address (word_at now address)) (only.size ∙ sym (length-set before (address / 2) (word_at now address))) each
  where
    each : (k : ℕ) → k < length now → get_or now k 0 ≡ get_or (stored before address (word_at now address)) k 0
    each k low = elim (same_or k (address / 2)) [
      | inl here ↦ subst (λ (n : ℕ). get_or now n 0 ≡ get_or (stored before address (word_at now address)) n 0) (sym here)
          (sym (get_or-set_same before (address / 2) (word_at now address) 0 (subst (λ n. n < length before) here (subst (λ n. k < n) only.size low))))
      | inr apart ↦ other_same before now plan address number k is words only (subst (λ n. k < n) only.size low) apart ∙ sym (get_or-set_other before (address / 2) k (word_at now address) 0 apart)
    ]

-- ---- the host over an honest line

may_begin : (plan : PlanValue) (patience : ℕ) (machine : Machine) → IsReadyMachine machine → MayBegin (begun plan 0 false patience) machine
may_begin plan patience machine ready = record {
  begun = refl;
  console = ready.console;
  stopped = ready.stopped;
  verified = record { lies = λ i below. absurd (omega (arith, below)); stands = λ i below. absurd (omega (arith, below)) };
}

kept_at : (core : Core) (heard : List Heard) (machine : Machine) (waiting : List ℕ) (end : Wire) → IsHost core → MayBegin core machine → length waiting ≤ 32 → Passes (resting machine waiting 0) (dialogue core heard) end → IsKept (over (led core heard) end)
kept_at core heard machine waiting end host may few passes =
    let run : Leads (over core (resting machine waiting 0)) (replay core heard) (over (led core heard) end) = dialogue_leads heard core (resting machine waiting 0) end passes in
    subst IsKept run.world (kept_events (over core (resting machine waiting 0)) run.events (begin_kept core machine waiting host may few))

unmarked : (going : Bool) (start : Option ℕ) (phase : Phase) → start ≡ None → MarkFits going start phase → going ≡ false
unmarked false start phase none fits = refl
unmarked true start phase none fits = absurd (cc (subst IsSome none fits.0))

never_marked : (plan : PlanValue) (patience : ℕ) (heard : List Heard) → plan.start ≡ None → IsHost (led (begun plan 0 false patience) heard) → (led (begun plan 0 false patience) heard).going ≡ false
never_marked plan patience heard none is =
    let last : Core = led (begun plan 0 false patience) heard in
    unmarked last.going last.plan.start last.phase (ap (λ (p : PlanValue). p.start) (led_plan (begun plan 0 false patience) heard) ∙ none) is.mark

ready_at : (plan : PlanValue) (patience : ℕ) (heard : List Heard) (machine now : Machine) (lost : ℕ) → plan.start ≡ None → IsHost (begun plan 0 false patience) → IsReadyMachine machine → IsHonest machine (dialogue (begun plan 0 false patience) heard) lost now → IsReadyMachine now
ready_at plan patience heard machine now lost none host ready honest =
    let core : Core = begun plan 0 false patience in
    let k : IsKept (over (led core heard) honest.end) = kept_at core heard machine honest.waiting honest.end host (may_begin plan patience machine ready) honest.few honest.passes in
    subst IsReadyMachine honest.machine_is record {
      console = k.machine;
      stopped = stopped_with honest.end.machine.mode (subst (λ going. RunsWith going honest.end.machine.mode) (never_marked plan patience heard none k.host) k.running);
    }

told_load : (stop : LoadStop) (all said : List Item) → IsSaid (Some stop) all said → IsToldOf all said
told_load (load.Ended end) all said is = inl is
told_load (load.CutOff TurnsOver) all said is = inl is
told_load (load.KeepFailed fault) all said lacks = inr lacks
told_load (load.CutOff (LineFailed fault)) all said (inl whole) = inl whole
told_load (load.CutOff (LineFailed fault)) all said (inr lacks) = inr lacks

begins_listening : (core : Core) (heard : List Heard) → BeginsByListening (dialogue core heard)
begins_listening core [] = tt
begins_listening core (heard ∷ more) = tt

-- what was said is a dialogue, perhaps without its last key
deposit_told : (options : MemoryOptions) (address number : ℕ) (stop : LoadStop) (parts : List (List Item)) → (d : IsDepositLed options address number stop parts) → IsToldOf (dialogue (begun d.plan 0 false options.patience) d.session.heard) d.said
deposit_told options address number stop parts d =
    let core : Core = begun d.plan 0 false options.patience in
    subst (IsToldOf (dialogue core d.session.heard)) (sym d.session.on_line)
    (told_load stop (dialogue core d.session.heard) d.session.said (session_said most_turns (driving core d.last (Some stop)) (session_told (Some []) (Some [])) (session_told (Some d.said) (Some d.kept)) d.session))

pub deposit_leaves : (options : MemoryOptions) (address number : ℕ) (stop : LoadStop) (parts : List (List Item)) → (d : IsDepositLed options address number stop parts) → LeavesReady d.said
deposit_leaves options address number stop parts d =
    let core : Core = begun d.plan 0 false options.patience in
    let all : List Item = dialogue core d.session.heard in
    let front : IsToldOf all d.said = deposit_told options address number stop parts d in record {
      begins = told_begins all d.said front (begins_listening core d.session.heard);
      tidy = λ machine ready. told_tidy all d.said machine front (tidy core d.session.heard machine d.host (may_begin d.plan options.patience machine ready));
      ready = λ machine now lost ready honest. ready_at d.plan options.patience d.session.heard machine now lost d.plan_is.no_start d.host ready (told_honest all d.said machine now lost front honest);
    }
  where
    tidy : (core : Core) (heard : List Heard) (machine : Machine) → IsHost core → MayBegin core machine → EndsTidily machine (dialogue core heard)
    tidy core heard machine host may waiting end few passes =
        let k : IsKept (over (led core heard) end) = kept_at core heard machine waiting end host may few passes in
        record { one_way = k.one_way; few = k.few }

-- a number that won't stand is none of good memory
never_wont : (phase : Phase) (a : ℕ) (memory : List ℕ) (patience spent lost : ℕ) → ended phase ≡ Some (WontHold a) → HasCause phase memory patience spent lost → ⊥
never_wont (Over (WontHold b)) a memory patience spent lost is cause = cause
never_wont (Over Loaded) a memory patience spent lost is cause = absurd (cc is)
never_wont (Over Started) a memory patience spent lost is cause = absurd (cc is)
never_wont (Over Uncertain) a memory patience spent lost is cause = absurd (cc is)
never_wont (Over MaybeStarted) a memory patience spent lost is cause = absurd (cc is)
never_wont (Over GaveUp) a memory patience spent lost is cause = absurd (cc is)
never_wont (Over (NoWord b)) a memory patience spent lost is cause = absurd (cc is)
never_wont Settle a memory patience spent lost is cause = absurd (cc is)
never_wont (Sync place) a memory patience spent lost is cause = absurd (cc is)
never_wont (Address visit place) a memory patience spent lost is cause = absurd (cc is)
never_wont (Slash visit) a memory patience spent lost is cause = absurd (cc is)
never_wont (Before visit) a memory patience spent lost is cause = absurd (cc is)
never_wont (Value visit value place) a memory patience spent lost is cause = absurd (cc is)
never_wont (Deposit attempt value place) a memory patience spent lost is cause = absurd (cc is)
never_wont (Return reason place) a memory patience spent lost is cause = absurd (cc is)
never_wont (Start place) a memory patience spent lost is cause = absurd (cc is)
never_wont Go a memory patience spent lost is cause = absurd (cc is)

-- what a deposit leaves: a number in that one word, which is the one that was to stand there where the load came to its end
pub record Deposited (machine now : Machine) (address number : ℕ) (stop : LoadStop) : Type 0 where
  pub ready : IsReadyMachine now
  pub cell : ℕ
  pub memory : now.memory ≡ stored machine.memory address cell
  pub loaded : is_loaded stop ≡ true → word_at now.memory address ≡ number
  pub held : (a : ℕ) → stop ≡ load.Ended (WontHold a) → ⊥

pub deposited : (options : MemoryOptions) (address number : ℕ) (stop : LoadStop) (parts : List (List Item)) (machine now : Machine) (lost : ℕ) → (d : IsDepositLed options address number stop parts) → IsReadyMachine machine → IsHonest machine d.said lost now →
    Deposited machine now address number stop
deposited options address number stop parts machine now lost d ready honest =
    let core : Core = begun d.plan 0 false options.patience in
    let heard : List Heard = d.session.heard in
    let all : List Item = dialogue core heard in
    let whole : IsHonest machine all lost now = told_honest all d.said machine now lost (deposit_told options address number stop parts d) honest in
    let is : d.last ≡ led core heard = core_is most_turns (driving core d.last (Some stop)) (session_told (Some []) (Some [])) (session_told (Some d.said) (Some d.kept)) d.session in
    let trusted = trustworthy core heard d.host machine now lost (may_begin d.plan options.patience machine ready) whole in
    let same : (led core heard).plan ≡ d.plan = led_plan core heard in
    let only : OnlyImage machine.memory d.plan.image now.memory = subst (λ (p : PlanValue). OnlyImage machine.memory p.image now.memory) same trusted.safe.bytes in
    record {
      ready = ready_at d.plan options.patience heard machine now lost d.plan_is.no_start d.host ready whole;
      cell = word_at now.memory address;
      memory = only_word machine.memory now.memory d.plan address number d.host.image d.plan_is.words only;
      loaded = λ done.
          let holds : HoldsAgain address number d.session.said =
          again_of stop address number options.patience most_turns d.plan d.last (session_told (Some []) (Some [])) (session_told (Some d.said) (Some d.kept)) d.plan_is d.host (subst IsHost (sym is) (led_kept core heard d.host)) (ap (λ (c : Core). c.plan) is ∙ same) d.end d.session done in
          (holds machine now lost ready (subst (λ items. IsHonest machine items lost now) d.session.on_line honest)).1;
      held = λ a wont. never_wont d.last.phase a now.memory d.last.patience d.last.spent (lost + 0) (subst (λ (s : LoadStop). TellsEnd s (ended d.last.phase)) wont d.end)
          (subst (λ (c : Core). HasCause c.phase now.memory c.patience c.spent (lost + 0)) (sym is) trusted.cause);
    }
