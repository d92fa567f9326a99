-- Where the host saw the program start, nothing is under way.
use Rattle.std.proofs.Common.{◌≡◌, ℕ, ◌<◌, ◌⊎◌, Bool, true, false, ltb, min, List, [], ◌∷◌, ◌++◌, length, Option, Some, None, unwrap_or, inl, inr, refl, arith, ap, sym, subst, ◌∙◌, append-nil}
use Rattle.std.proofs.lemmas.Bool.Decides.{nat_tests}
use Rattle.std.specs.Prelude.{option_to_list, if◌then◌else◌, ◌&&◌, not, slice_index}
use Rattle.odt_machine.specs.declared.mode.Mode.{Mode}
use Rattle.odt_machine.specs.declared.mode.Mode.TheVariants.{Prompt, Number, Opened, Typing, Running}
use Rattle.odt_machine.specs.Machine.{Machine}
use Rattle.host_core.specs.Plan.{PlanValue}
use Rattle.host_core.specs.declared.heard.Heard.{Heard}
use Rattle.host_core.specs.declared.heard.Heard.TheVariants.{Got, Quiet as Silence}
use Rattle.host_core.specs.declared.phase.End.TheVariants.{Started}
use Rattle.host_core.specs.declared.phase.Phase.{Phase}
use Rattle.host_core.specs.declared.phase.Phase.TheVariants.{Settle, Sync, Address, Slash, Before, Value, Deposit, Return, Start, Go, Ended}
use Rattle.host_core.specs.Core.{Core, begins_attempt, start_of, word_under_way}
use Rattle.host_core.specs.Host.{IsHost, PhaseFits, Basis, basis_of}
use Rattle.host_core.specs.PhaseTable.{move, turn_of}
use Rattle.host_core.proofs.Frame.{moved, silent}
use Rattle.line_world.specs.declared.event.Event.{Event}
use Rattle.line_world.specs.declared.event.Event.TheVariants.{Take, Hear, LoseDown, LoseUp, ChangeDown, ChangeUp, Quiet, Restart}
use Rattle.line_world.specs.Invariant.{IsKept, InPhase, OneWay, RunsAt}
use Rattle.line_world.specs.Pending.{IsRemnant}
use Rattle.line_world.specs.Scene.{Scene, Toll, toll_of}
use Rattle.line_world.specs.Wire.{may_change}
use Rattle.line_world.specs.Site.{Ground, Site, ground, site}
use Rattle.line_world.specs.World.{after, happens, host_hears as hears_in, renewing, takes, times_out}
use Rattle.line_world.proofs.Events.{kept_event, lost_if}
use Rattle.line_world.proofs.Frame.{scene}
use Rattle.honest_line.proofs.Started.{begins_otherwise, hears_start, otherwise, waits_start}

-- the program runs at its start, and nothing is under way
pub record AtRest (w : Scene) : Type 0 where
  pub none_down : w.down ≡ []
  pub silent : w.up ≡ []
  pub runs : w.machine.mode ≡ Running (start_of w.core)

-- .. where the line has changed no character in the attempt under way
abbrev pub StartedRests : Scene → Type 0
StartedRests w = w.changed ≡ false → w.core.phase ≡ Ended Started → AtRest w

-- of the echo of `G` nothing is left behind it
nothing_left : (c : ℕ) (up : List ℕ) → IsRemnant (c ∷ up) (71 ∷ []) → up ≡ []
nothing_left c [] r = refl
nothing_left c (d ∷ up) (inl both) = absurd both.1
nothing_left c (d ∷ up) (inr none) = absurd none

record Echoed (mode : Mode) (start : ℕ) (up : List ℕ) : Type 0 where
  pub runs : mode ≡ Running start
  pub rest : up ≡ []

echoed : (hurt : Bool) (phase : Phase) (g : Ground) (t : Site) (down up : List ℕ) (c patience spent count : ℕ) → hurt ≡ false → phase ≡ Go →
    InPhase phase g t down (c ∷ up) patience spent (record { count = count; hurt = hurt }) → Echoed g.machine.mode t.start up
echoed true phase g t down up c patience spent count calm e live = absurd (cc calm)
echoed false Go g t down up c patience spent count calm e live = record { runs = live.rest.0; rest = nothing_left c up live.rest.1 }
echoed false Settle g t down up c patience spent count calm e live = absurd (cc e)
echoed false (Sync place) g t down up c patience spent count calm e live = absurd (cc e)
echoed false (Address visit place) g t down up c patience spent count calm e live = absurd (cc e)
echoed false (Slash visit) g t down up c patience spent count calm e live = absurd (cc e)
echoed false (Before visit) g t down up c patience spent count calm e live = absurd (cc e)
echoed false (Value visit value place) g t down up c patience spent count calm e live = absurd (cc e)
echoed false (Deposit deposit value place) g t down up c patience spent count calm e live = absurd (cc e)
echoed false (Return reason place) g t down up c patience spent count calm e live = absurd (cc e)
echoed false (Start place) g t down up c patience spent count calm e live = absurd (cc e)
echoed false (Ended end) g t down up c patience spent count calm e live = absurd (cc e)

none_sent : (down up : List ℕ) (c : ℕ) → OneWay down (c ∷ up) → down ≡ []
none_sent [] up c one = refl
none_sent (d ∷ down) up c one = absurd (clash one.1)
  where
    clash : c ∷ up ≡ [] → ⊥
    clash e = absurd (cc e)

pub going_at : (phase : Phase) (b : Basis) → (phase ≡ Go) ⊎ (phase ≡ Ended Started) → PhaseFits phase b → b.going ≡ true
going_at phase b (inl e) fits = (subst (λ p. PhaseFits p b) e fits).1
going_at phase b (inr e) fits = subst (λ p. PhaseFits p b) e fits

-- such a host sends nothing
sends_none : (core : Core) (what : Heard) → IsHost core → (core.phase ≡ Go) ⊎ (core.phase ≡ Ended Started) → (move core what).key ≡ None
sends_none core what host at = (silent core what host (going_at core.phase (basis_of core) at host.fits)).key

start_stays : (core : Core) (what : Heard) → start_of (move core what).next ≡ start_of core
start_stays core what = ap (λ (p : PlanValue). unwrap_or p.start 0) (moved core what).plan

still_none : (down : List ℕ) (key : Option ℕ) → down ≡ [] → key ≡ None → down ++ option_to_list key ≡ []
still_none down key none silent_key = ap (λ k. down ++ option_to_list k) silent_key ∙ (append-nil down ∙ none)

takes_rest : (m : Machine) (core : Core) (down up : List ℕ) (lost : Toll) → StartedRests (scene m core down up lost) → StartedRests (unwrap_or (takes (scene m core down up lost) down) (scene m core down up lost))
takes_rest m core [] up lost s = s
takes_rest m core (c ∷ down) up lost s = λ calm e. absurd (clash (s calm e).none_down)
  where
    clash : c ∷ down ≡ [] → ⊥
    clash f = absurd (cc f)

-- an attempt begins with no such phase, so none was changed before
calm_before : (begins hurt : Bool) → begins ≡ false → (if begins then false else hurt) ≡ false → hurt ≡ false
calm_before true hurt none calm = absurd (cc none)
calm_before false hurt none calm = calm

begins_none : (key : Option ℕ) (phase : Phase) → phase ≡ Ended Started → renewing key phase ≡ false
begins_none None phase e = refl
begins_none (Some key) phase e = ap begins_attempt e

hears_rest : (m : Machine) (core : Core) (down up : List ℕ) (lost : Toll) → IsKept (scene m core down up lost) → StartedRests (scene m core down up lost) →
    StartedRests (unwrap_or (hears_in (scene m core down up lost) up) (scene m core down up lost))
hears_rest m core down [] lost k s = s
hears_rest m core down (c ∷ up) lost k s = λ after e.
    let calm : lost.hurt ≡ false = calm_before (renewing (move core (Got c)).key (move core (Got c)).next.phase) lost.hurt (begins_none (move core (Got c)).key (move core (Got c)).next.phase e) after in
    elim (hears_start core.careful (word_under_way core) (start_of core) core.phase c) [
      | inl other ↦ absurd (otherwise core (turn_of core (Got c)) other e)
      | inr (inl echo) ↦
          let x = echoed lost.hurt core.phase (ground (scene m core down (c ∷ up) lost)) (site (scene m core down (c ∷ up) lost)) down up c core.patience core.spent lost.count calm echo.0 k.phase in record {
            none_down = still_none down (move core (Got c)).key (none_sent down up c k.one_way) (sends_none core (Got c) k.host (inl echo.0));
            silent = x.rest;
            runs = x.runs ∙ ap (λ n. Running n) (sym (start_stays core (Got c)));
          }
      | inr (inr said) ↦ absurd (clash (s calm said).silent)
    ]
  where
    clash : c ∷ up ≡ [] → ⊥
    clash f = absurd (cc f)

silence_rest : (m : Machine) (core : Core) (down up : List ℕ) (lost : Toll) → IsKept (scene m core down up lost) → StartedRests (scene m core down up lost) → StartedRests (unwrap_or (times_out (scene m core down up lost) down up) (scene m core down up lost))
silence_rest m core [] [] lost k s = λ after e.
    let calm : lost.hurt ≡ false = calm_before (renewing (move core Silence).key (move core Silence).next.phase) lost.hurt (begins_none (move core Silence).key (move core Silence).next.phase e) after in
    elim (waits_start core.careful core.phase) [
      | inl other ↦ absurd (otherwise core (turn_of core Silence) other e)
      | inr said ↦ record {
        none_down = still_none [] (move core Silence).key refl (sends_none core Silence k.host (inr said));
        silent = refl;
        runs = (s calm said).runs ∙ ap (λ n. Running n) (sym (start_stays core Silence));
      }
    ]
silence_rest m core (c ∷ down) up lost k s = s
silence_rest m core [] (c ∷ up) lost k s = s

under : (k n : ℕ) → ltb k n ≡ true → k < n
under k n e = grind (arith, nat_tests)

rests_event : (w : Scene) (event : Event) → IsKept w → StartedRests w → StartedRests (happens w event)
rests_event w Take k s = takes_rest w.machine w.core w.down w.up (toll_of w) s
rests_event w Hear k s = hears_rest w.machine w.core w.down w.up (toll_of w) k s
rests_event w (LoseDown n) k s = lost_if StartedRests w _ (ltb n (length w.down)) s (λ e calm f. let none = ap length (s calm f).none_down in let low = under n (length w.down) e in absurd (omega (arith, none, low)))
rests_event w (LoseUp n) k s = lost_if StartedRests w _ (ltb n (length w.up)) s (λ e calm f. let none = ap length (s calm f).silent in let low = under n (length w.up) e in absurd (omega (arith, none, low)))
rests_event w (ChangeDown n c) k s = lost_if StartedRests w _ (w.core.careful && (ltb n (length w.down) && may_change w.changed (slice_index w.down n) c)) s (λ e calm. absurd (cc calm))
rests_event w (ChangeUp n c) k s = lost_if StartedRests w _ (w.core.careful && (ltb n (length w.up) && not w.changed)) s (λ e calm. absurd (cc calm))
rests_event w Quiet k s = silence_rest w.machine w.core w.down w.up (toll_of w) k s
rests_event w (Restart kept) k s = λ calm e. absurd (begins_otherwise w.core.plan (min kept w.core.verified) w.core.going e)

pub rests_events : (w : Scene) (events : List Event) → IsKept w → StartedRests w → StartedRests (after w events)
rests_events w [] k s = s
rests_events w (event ∷ events) k s = rests_events (happens w event) events (kept_event w event k) (rests_event w event k s)

-- ---- a program that runs, runs from the start

abbrev pub RunsFrom : ℕ → Mode → Type 0
RunsFrom start mode = (p : ℕ) → mode ≡ Running p → p ≡ start

pub runs_from : (start : ℕ) (mode : Mode) → RunsAt start mode → RunsFrom start mode
runs_from start mode at p e = subst (RunsAt start) e at
