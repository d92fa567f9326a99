-- What a run of the world leaves, for lives before it and after it.
use Rattle.std.proofs.Common.{ℕ, ◌<◌, ltb, List, [], ◌∷◌, length, unwrap_or, sym, subst}
use Rattle.tape_image.specs.Plan.{PlanValue}
use Rattle.odt_machine.specs.Machine.{Machine}
use Rattle.odt_machine.specs.KeyTable.{take_of}
use Rattle.host_core.specs.declared.heard.Heard.TheVariants.{Got, Quiet as Silence}
use Rattle.host_core.specs.Core.{Core}
use Rattle.host_core.proofs.Frame.{moved}
use Rattle.line_world.specs.declared.event.Event.{Event}
use Rattle.line_world.specs.declared.event.Event.TheVariants.{Take, Hear, LoseDown, LoseUp, ChangeDown, ChangeUp, Quiet, Restart}
use Rattle.line_world.specs.Scene.{Scene, Toll, toll_of}
use Rattle.line_world.specs.Wire.{may_change}
use Rattle.std.specs.Prelude.{◌&&◌, not, slice_index}
use Rattle.line_world.specs.World.{takes, host_hears, times_out, happens, after, typed}
use Rattle.line_world.specs.Site.{IsThere, ground}
use Rattle.line_world.specs.Invariant.{IsKept}
use Rattle.line_world.specs.Promises.{StartsOnce}
use Rattle.line_world.specs.Safe.{IsSafe}
use Rattle.line_world.proofs.Frame.{scene}
use Rattle.line_world.proofs.Events.{kept_event, kept_events, steps_event, since_events, lost_if}
use Rattle.line_world.proofs.Starts.{starts_events}
use Rattle.line_world.proofs.Stores.{stands_after}
use Rattle.line_world.proofs.Taking.{key_takes}
use Rattle.honest_line.proofs.Runs.{Leads}
use Rattle.load_lives.proofs.Renewals.{place}

-- ---- a word that stands goes on standing

-- the plan's word numbered i stands in a world
abbrev Stands : ℕ → Scene → Type 0
Stands i w = IsThere (place w.core.plan w.machine i)

takes_stand : (m : Machine) (core : Core) (down up : List ℕ) (lost : Toll) (i : ℕ) → IsKept (scene m core down up lost) → i < length core.plan.words → Stands i (scene m core down up lost) →
    Stands i (unwrap_or (takes (scene m core down up lost) down) (scene m core down up lost))
takes_stand m core [] up lost i k below there = there
takes_stand m core (c ∷ down) up lost i k below there =
    stands_after (ground (scene m core (c ∷ down) up lost)) (take_of m c).memory i k.host.image (key_takes m core c down up lost k).memory below there

hears_stand : (m : Machine) (core : Core) (down up : List ℕ) (lost : Toll) (i : ℕ) → Stands i (scene m core down up lost) → Stands i (unwrap_or (host_hears (scene m core down up lost) up) (scene m core down up lost))
hears_stand m core down [] lost i there = there
hears_stand m core down (c ∷ up) lost i there = subst (λ p. IsThere (place p m i)) (sym (moved core (Got c)).plan) there

silence_stand : (m : Machine) (core : Core) (down up : List ℕ) (lost : Toll) (i : ℕ) → Stands i (scene m core down up lost) → Stands i (unwrap_or (times_out (scene m core down up lost) down up) (scene m core down up lost))
silence_stand m core [] [] lost i there = subst (λ p. IsThere (place p m i)) (sym (moved core Silence).plan) there
silence_stand m core (c ∷ down) up lost i there = there
silence_stand m core [] (c ∷ up) lost i there = there

stand_event : (w : Scene) (event : Event) (i : ℕ) → IsKept w → i < length w.core.plan.words → Stands i w → Stands i (happens w event)
stand_event w Take i k below there = takes_stand w.machine w.core w.down w.up (toll_of w) i k below there
stand_event w Hear i k below there = hears_stand w.machine w.core w.down w.up (toll_of w) i there
stand_event w (LoseDown n) i k below there = lost_if (Stands i) w _ (ltb n (length w.down)) there (λ e. there)
stand_event w (LoseUp n) i k below there = lost_if (Stands i) w _ (ltb n (length w.up)) there (λ e. there)
stand_event w (ChangeDown n c) i k below there = lost_if (Stands i) w _ (w.core.careful && (ltb n (length w.down) && may_change w.changed (slice_index w.down n) c)) there (λ e. there)
stand_event w (ChangeUp n c) i k below there = lost_if (Stands i) w _ (w.core.careful && (ltb n (length w.up) && not w.changed)) there (λ e. there)
stand_event w Quiet i k below there = silence_stand w.machine w.core w.down w.up (toll_of w) i there
stand_event w (Restart kept) i k below there = there

stand_events : (w : Scene) (events : List Event) (i : ℕ) → IsKept w → i < length w.core.plan.words → Stands i w → Stands i (after w events)
stand_events w [] i k below there = there
stand_events w (event ∷ events) i k below there =
    stand_events (happens w event) events i (kept_event w event k) (subst (λ (p : PlanValue). i < length p.words) (sym (steps_event w event k).plan) below) (stand_event w event i k below there)

-- ---- a whole run

pub record Ran (w : Scene) (keys : List ℕ) (next : Scene) : Type 0 where
  pub kept : IsKept next
  pub starts : StartsOnce w.core next.core keys
  pub since : (before : List ℕ) → IsSafe before w.core w.machine.memory → IsSafe before next.core next.machine.memory
  pub stand : (i : ℕ) → i < length w.core.plan.words → Stands i w → Stands i next

pub ran : (w next : Scene) (keys : List ℕ) → IsKept w → Leads w keys next → Ran w keys next
ran w next keys k run = record {
  kept = subst IsKept run.world (kept_events w run.events k);
  starts = subst (λ typing. StartsOnce w.core next.core typing) run.keys_are (subst (λ (x : Scene). StartsOnce w.core x.core (typed w run.events)) run.world (starts_events w run.events k));
  since = λ before safe. subst (λ (x : Scene). IsSafe before x.core x.machine.memory) run.world (since_events before w run.events k safe);
  stand = λ i below there. subst (Stands i) run.world (stand_events w run.events i k below there);
}
