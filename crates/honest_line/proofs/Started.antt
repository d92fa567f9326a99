-- Where the host saw the program start, it runs.
use Rattle.std.proofs.Common.{◌≡◌, ℕ, ◌+◌, ◌≤◌, Bool, true, false, ltb, List, [], ◌∷◌, ◌++◌, length, Option, Some, None, unwrap_or, inl, inr, refl, ap, sym, subst, ◌∙◌}
use Rattle.std.specs.Prelude.{◌==◌, ◌&&◌, ◌⊎◌, if◌then◌else◌, is_none, min, not, slice_index}
use Rattle.host_core.specs.Word.{WordValue}
use Rattle.host_core.specs.Plan.{PlanValue}
use Rattle.odt_machine.specs.Key.{key_of}
use Rattle.odt_machine.specs.Laws.{is_running}
use Rattle.odt_machine.specs.Machine.{Machine}
use Rattle.host_core.specs.declared.heard.Heard.{Heard}
use Rattle.host_core.specs.declared.heard.Heard.TheVariants.{Got, Quiet as Silence}
use Rattle.host_core.specs.declared.phase.End.{End}
use Rattle.host_core.specs.declared.phase.End.TheVariants.{Loaded, Started, Uncertain, GaveUp}
use Rattle.host_core.specs.declared.phase.Phase.{Phase}
use Rattle.host_core.specs.declared.phase.Phase.TheVariants.{Settle, Sync, Address, Slash, Before, Value, Deposit, Return, Start, Go, Ended}
use Rattle.host_core.specs.declared.phase.Try.TheVariants.{Only, First, Second}
use Rattle.host_core.specs.declared.phase.Visit.{Visit}
use Rattle.host_core.specs.declared.phase.Visit.TheVariants.{Look, Again, Check}
use Rattle.host_core.specs.declared.phase.Reason.{Reason}
use Rattle.host_core.specs.declared.phase.Reason.TheVariants.{Store, Reopen, Missing, Close}
use Rattle.host_core.specs.declared.turn.Turn.{Turn}
use Rattle.host_core.specs.declared.turn.Turn.TheVariants.{Listen, Key, Verified, Revisit, Next, Mark, Stop, Stray, Timeout}
use Rattle.host_core.specs.Core.{Core, first_phase, word_under_way, start_of}
use Rattle.host_core.specs.Host.{IsHost}
use Rattle.host_core.specs.Laws.{led}
use Rattle.host_core.specs.PhaseTable.{Move, taken, turn_of, hears, waits, read, go_hears, returned, sends, listens, after_words}
use Rattle.host_core.proofs.Frame.{on_test, on_move}
use Rattle.host_core.proofs.Walk.{sync_walk, address_walk, slash_walk, before_walk, value_walk, read_walk, deposit_walk, return_walk, start_walk}
use Rattle.line_world.specs.declared.event.Event.{Event}
use Rattle.line_world.specs.declared.event.Event.TheVariants.{Take, Hear, LoseDown, LoseUp, ChangeDown, ChangeUp, Quiet, Restart}
use Rattle.line_world.specs.Scene.{Scene, Toll, toll_of, over}
use Rattle.line_world.specs.World.{takes, host_hears as hears_in, times_out, happens, after}
use Rattle.line_world.specs.Wire.{Wire, may_change}
use Rattle.line_world.specs.Struck.{Attempt, Fine, Goes}
use Rattle.odt_machine.specs.declared.mode.Mode.{Mode}
use Rattle.host_core.specs.Console.{resynchronise_of}
use borrow.Author.Tests.{eqb-true}
use Rattle.line_world.specs.Invariant.{IsKept, InPhase, OneWay}
use Rattle.line_world.specs.Site.{Site, site, Ground, ground}
use Rattle.line_world.proofs.Frame.{scene}
use Rattle.line_world.proofs.Events.{kept_event, lost_if}
use Rattle.host_devices.specs.declared.item.Item.{Item}
use Rattle.host_devices.specs.declared.item.Item.TheVariants.{Sent}
use Rattle.host_devices.specs.Dialogue.{dialogue, keys_of}
use Rattle.honest_line.specs.Honest.{resting, IsHonest}
use Rattle.honest_line.specs.Moves.{Passes}
use Rattle.honest_line.specs.Starts.{RunsByGo, StartedRuns, TellsStart}
use Rattle.honest_line.specs.Trust.{MayBegin}
use Rattle.honest_line.proofs.Going.{passes_back, runs_on}
use Rattle.honest_line.proofs.Runs.{dialogue_leads}
use Rattle.honest_line.proofs.Trusted.{begin_kept}
use Rattle.honest_line.proofs.Wires.{passes_lost}

-- ---- the one row that ends a life as started

-- a turn that does not say that the program started
abbrev pub NoStart : Turn → Type 0
NoStart (Listen phase) = phase ≡ Ended Started → ⊥
NoStart (Key key phase) = phase ≡ Ended Started → ⊥
NoStart (Stop end) = end ≡ Started → ⊥
NoStart turn = Unit {0}

comes_back : (reason : Reason) → NoStart (returned reason)
comes_back (Store deposit value) = tt
comes_back (Reopen first) = tt
comes_back (Missing address) = λ e. cc
comes_back Close = tt

whole_reading : (careful : Bool) (word : WordValue) (visit : Visit) (value : ℕ) → NoStart (read careful word visit value)
whole_reading careful word visit value =
    read_walk NoStart careful word visit value tt (λ same. tt) (λ care look e. cc) (λ care look e. cc) (λ care look e. cc) (λ first again e. cc) (λ stored check e. cc) (λ e. cc)

echo_of_go : (c : ℕ) → NoStart (go_hears c) ⊎ (c ≡ 71)
echo_of_go c = on_test (λ v. NoStart (if v then Stop Started else Stop Uncertain) ⊎ (c ≡ 71)) (c == 71) (λ same. inr (eqb-true _ _ same)) (λ other. inl (λ e. cc))

-- on a character the table says so at the echo of `G` alone, or where it was said before
pub hears_start : (careful : Bool) (word : WordValue) (start : ℕ) (phase : Phase) (c : ℕ) → NoStart (hears careful word start phase c) ⊎ (((phase ≡ Go) × (c ≡ 71)) ⊎ (phase ≡ Ended Started))
hears_start careful word start Settle c = inl (λ e. cc)
hears_start careful word start (Sync place) c = inl (sync_walk NoStart careful place c tt (λ k within e. cc) tt)
hears_start careful word start (Address visit place) c = inl (address_walk NoStart word.address visit place c tt (λ less e. cc) (λ e. cc))
hears_start careful word start (Slash visit) c = inl (slash_walk NoStart visit c tt (λ e. cc))
hears_start careful word start (Before visit) c = inl (before_walk NoStart careful word visit c tt (λ e. cc) (λ care e. cc) (λ plain e. cc) (λ low high e. cc))
hears_start careful word start (Value visit value place) c =
    inl (value_walk NoStart careful word visit value place c tt (λ none low high e. cc) (λ some less digit e. cc) (λ all blank. whole_reading careful word visit value))
hears_start careful word start (Deposit deposit value place) c = inl (deposit_walk NoStart deposit value place c tt (λ less e. cc) (λ e. cc))
hears_start careful word start (Return reason place) c = inl (return_walk NoStart reason place c tt (λ k within e. cc) (comes_back reason))
hears_start careful word start (Start place) c = inl (start_walk NoStart start place c tt (λ less e. cc) (λ all. tt))
hears_start careful word start Go c = elim (echo_of_go c) [ inl other ↦ inl other | inr same ↦ inr (inl (refl, same)) ]
hears_start careful word start (Ended Started) c = inr (inr refl)
hears_start careful word start (Ended end) c = inl (λ e. cc)

pub waits_start : (careful : Bool) (phase : Phase) → NoStart (waits careful phase) ⊎ (phase ≡ Ended Started)
waits_start careful Settle = inl (λ e. cc)
waits_start careful Go = inl (λ e. cc)
waits_start careful (Ended Started) = inr refl
waits_start careful (Ended end) = inl (λ e. cc)
waits_start careful phase = inl tt

-- the move of such a turn
abbrev pub EndsOtherwise : Move → Type 0
EndsOtherwise m = m.next.phase ≡ Ended Started → ⊥

words_otherwise : (core : Core) (start : Option ℕ) → EndsOtherwise (after_words core start)
words_otherwise core None e = cc
words_otherwise core (Some s) e = cc

stops_otherwise : (core : Core) (end : End) → (end ≡ Started → ⊥) → EndsOtherwise (listens core (Ended end))
stops_otherwise core end other e = other (same end e)
  where
    same : (end : End) → Ended end ≡ Ended Started → end ≡ Started
    same end e = cc

pub otherwise : (core : Core) (turn : Turn) → NoStart turn → EndsOtherwise (taken core turn)
otherwise core (Listen phase) none e = none e
otherwise core (Key key phase) none e = none e
otherwise core (Stop end) none e = stops_otherwise core end none e
otherwise core Verified none e = cc
otherwise core (Revisit visit) none e = cc
otherwise core Mark none e = cc
otherwise core Next none e =
    on_move EndsOtherwise (ltb core.verified (length core.plan.words)) _ (after_words core core.plan.start) (λ _ f. cc) (λ _. words_otherwise core core.plan.start) e
otherwise core Stray none e = on_move EndsOtherwise (ltb core.spent core.patience) (listens (record core { spent = core.spent + 1 }) Settle) (listens core (Ended GaveUp)) (λ _ f. cc) (λ _ f. cc) e
otherwise core Timeout none e = on_move EndsOtherwise (ltb core.spent core.patience) (sends (record core { spent = core.spent + 1 }) (resynchronise_of core.careful) (Sync 0)) (listens core (Ended GaveUp)) (λ _ f. cc) (λ _ f. cc) e

-- ---- events

-- where the host of a world ended as started, the program runs
abbrev StartedIn : Scene → Type 0
StartedIn w = w.core.phase ≡ Ended Started → is_running w.machine.mode ≡ true

-- while the echo of `G` is under way and is awaited, the program runs, also where a character was changed
echo_runs : (hurt : Bool) (t : Site) (mode : Mode) (down up : List ℕ) (c spent lost : ℕ) → c ≡ 71 → OneWay down (c ∷ up) → Attempt hurt Go t mode down (c ∷ up) spent lost → is_running mode ≡ true
echo_runs hurt t mode (d ∷ down) up c spent lost same way h = let none = way.1 in absurd (cc)
echo_runs false t mode [] up c spent lost same way h = ap is_running h.rest.0
echo_runs true t mode [] up c spent lost same way (due, inl h) = ap is_running h.rest.0
echo_runs true t mode [] up c spent lost same way (due, inr h) = ap is_running (subst (λ x. Goes t mode Go up (λ next. Fine t mode next up) (go_hears x)) same h.way.1)

phase_runs : (phase : Phase) (g : Ground) (t : Site) (down up : List ℕ) (c patience spent : ℕ) (toll : Toll) → phase ≡ Go → c ≡ 71 → OneWay down (c ∷ up) → InPhase phase g t down (c ∷ up) patience spent toll → is_running g.machine.mode ≡ true
phase_runs phase g t down up c patience spent toll is same way h =
    echo_runs toll.hurt t g.machine.mode down up c spent toll.count same way (subst (λ (p : Phase). InPhase p g t down (c ∷ up) patience spent toll) is h)

takes_started : (m : Machine) (core : Core) (down up : List ℕ) (lost : Toll) → StartedIn (scene m core down up lost) → StartedIn (unwrap_or (takes (scene m core down up lost) down) (scene m core down up lost))
takes_started m core [] up lost s = s
takes_started m core (c ∷ down) up lost s = λ e. runs_on m.style m.memory m.mode (key_of c) c (s e)

hears_started : (m : Machine) (core : Core) (down up : List ℕ) (lost : Toll) → IsKept (scene m core down up lost) → StartedIn (scene m core down up lost) →
    StartedIn (unwrap_or (hears_in (scene m core down up lost) up) (scene m core down up lost))
hears_started m core down [] lost k s = s
hears_started m core down (c ∷ up) lost k s = λ e. elim (hears_start core.careful (word_under_way core) (start_of core) core.phase c) [
  | inl other ↦ absurd (otherwise core (turn_of core (Got c)) other e)
  | inr (inl echo) ↦ phase_runs core.phase (ground (scene m core down (c ∷ up) lost)) (site (scene m core down (c ∷ up) lost)) down up c core.patience core.spent lost echo.0 echo.1 k.one_way k.phase
  | inr (inr said) ↦ s said
]

silence_started : (m : Machine) (core : Core) (down up : List ℕ) (lost : Toll) → StartedIn (scene m core down up lost) → StartedIn (unwrap_or (times_out (scene m core down up lost) down up) (scene m core down up lost))
silence_started m core [] [] lost s = λ e. elim (waits_start core.careful core.phase) [ inl other ↦ absurd (otherwise core (turn_of core Silence) other e) | inr said ↦ s said ]
silence_started m core (c ∷ down) up lost s = s
silence_started m core [] (c ∷ up) lost s = s

pub begins_otherwise : (plan : PlanValue) (k : ℕ) (going : Bool) → first_phase plan k going ≡ Ended Started → ⊥
begins_otherwise plan k true e = cc
begins_otherwise plan k false e = on_test (λ v. (if v then Ended Loaded else Settle) ≡ Ended Started → ⊥) (k == length plan.words && is_none plan.start) (λ _ f. cc) (λ _ f. cc) e

started_event : (w : Scene) (event : Event) → IsKept w → StartedIn w → StartedIn (happens w event)
started_event w Take k s = takes_started w.machine w.core w.down w.up (toll_of w) s
started_event w Hear k s = hears_started w.machine w.core w.down w.up (toll_of w) k s
started_event w (LoseDown n) k s = lost_if StartedIn w _ (ltb n (length w.down)) s (λ e. s)
started_event w (LoseUp n) k s = lost_if StartedIn w _ (ltb n (length w.up)) s (λ e. s)
started_event w (ChangeDown n c) k s = lost_if StartedIn w _ (w.core.careful && (ltb n (length w.down) && may_change w.changed (slice_index w.down n) c)) s (λ e. s)
started_event w (ChangeUp n c) k s = lost_if StartedIn w _ (w.core.careful && (ltb n (length w.up) && not w.changed)) s (λ e. s)
started_event w Quiet k s = silence_started w.machine w.core w.down w.up (toll_of w) s
started_event w (Restart kept) k s = λ e. absurd (begins_otherwise w.core.plan (min kept w.core.verified) w.core.going e)

started_events : (w : Scene) (events : List Event) → IsKept w → StartedIn w → StartedIn (after w events)
started_events w [] k s = s
started_events w (event ∷ events) k s = started_events (happens w event) events (kept_event w event k) (started_event w event k s)

-- ---- an honest line

begin_started : (core : Core) (machine : Machine) (waiting : List ℕ) → MayBegin core machine → StartedIn (over core (resting machine waiting 0))
begin_started core machine waiting may = λ e. absurd (begins_otherwise core.plan core.verified false (sym (ap (λ (c : Core). c.phase) may.begun) ∙ e))

passes_started : (core : Core) (things : List Heard) (machine : Machine) (waiting : List ℕ) (end : Wire) → IsHost core → MayBegin core machine → length waiting ≤ 32 → Passes (resting machine waiting 0) (dialogue core things) end →
    StartedRuns (led core things) end.machine
passes_started core things machine waiting end host may few passes =
    let run = dialogue_leads things core (resting machine waiting 0) end passes in
    subst StartedIn run.world (started_events (over core (resting machine waiting 0)) run.events (begin_kept core machine waiting host may few) (begin_started core machine waiting may))

-- no program runs but by a `G` that was sent
runs_by_go : (machine now : Machine) (items : List Item) (lost : ℕ) → is_running machine.mode ≡ false → IsHonest machine items lost now → RunsByGo now (keys_of items)
runs_by_go machine now items lost stopped honest runs =
    let start : is_running honest.end.machine.mode ≡ true = ap (λ (m : Machine). is_running m.mode) honest.machine_is ∙ runs in
    elim (passes_back items (resting machine honest.waiting 0) honest.end honest.passes (inl start)) [ inl before ↦ absurd (cc) | inr has ↦ has ]

pub tells_start : (core : Core) (things : List Heard) → IsHost core → TellsStart core (led core things) (dialogue core things)
tells_start core things host machine now lost may honest = record {
  by_go = runs_by_go machine now (dialogue core things) lost may.stopped honest;
  runs = subst (StartedRuns (led core things)) honest.machine_is (passes_started core things machine honest.waiting honest.end host may honest.few honest.passes);
}

-- the same where the last key was not sent, as of a line that lost this key
pub tells_start_unsaid : (core : Core) (things : List Heard) (items : List Item) (key : ℕ) → IsHost core → dialogue core things ≡ items ++ Sent key ∷ [] → TellsStart core (led core things) items
tells_start_unsaid core things items key host is machine now lost may honest = record {
  by_go = runs_by_go machine now items lost may.stopped honest;
  runs = subst (StartedRuns (led core things)) honest.machine_is
      (passes_started core things machine honest.waiting (record honest.end { lost = 1 + honest.end.lost }) host may honest.few
      (subst (λ list. Passes (resting machine honest.waiting 0) list (record honest.end { lost = 1 + honest.end.lost })) (sym is) (passes_lost items key (resting machine honest.waiting 0) honest.end honest.passes)));
}
