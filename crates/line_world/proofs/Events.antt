-- Every event keeps the invariant, and does to memory what is safe.
use Rattle.std.proofs.Common.{◌≡◌, ℕ, ◌/◌, ◌<◌, ◌≤◌, Bool, true, false, ltb, not, ◌&&◌, Some, None, List, [], ◌∷◌, length, unwrap_or, inl, inr, refl, arith, ap, sym, subst, ◌∙◌}
use Rattle.std.specs.Prelude.{if◌then◌else◌, slice_index}
use Rattle.std.proofs.lemmas.Bool.Decides.{nat_tests}
use Rattle.tape_image.specs.Word.{Stands}
use Rattle.tape_image.specs.Image.{Image}
use Rattle.tape_image.specs.Plan.{PlanValue, IsPlan}
use Rattle.tape_image.proofs.Halves.{Stands-unchanged}
use Rattle.tape_image.proofs.Standing.{IsOverlay-standing}
use Rattle.odt_machine.specs.Machine.{Machine}
use Rattle.odt_machine.specs.KeyTable.{take_of}
use Rattle.host_core.specs.declared.heard.Heard.TheVariants.{Got, Quiet as Silence}
use Rattle.host_core.specs.Core.{Core, word_nr, no_word}
use Rattle.host_core.proofs.Turns.{kept}
use Rattle.host_core.proofs.Frame.{moved}
use Rattle.line_world.specs.declared.event.Event.{Event}
use Rattle.line_world.specs.declared.event.Event.TheVariants.{Take, Hear, LoseDown, LoseUp, ChangeDown, ChangeUp, Quiet, Restart}
use Rattle.line_world.specs.Scene.{Toll}
use Rattle.line_world.specs.Scene.{Scene, toll_of}
use Rattle.line_world.specs.World.{takes, host_hears, times_out, happens, after}
use Rattle.line_world.specs.Wire.{may_change}
use Rattle.line_world.specs.Site.{site_of, IsThere, ground}
use Rattle.line_world.specs.Invariant.{IsKept}
use Rattle.line_world.specs.Safe.{OnlyImage, IsLoaded, IsSafe}
use Rattle.line_world.proofs.Frame.{scene}
use Rattle.line_world.proofs.Losses.{kept_lose_down, kept_lose_up}
use Rattle.line_world.proofs.Silence.{kept_silence}
use Rattle.line_world.proofs.NewLives.{kept_restart}
use Rattle.line_world.proofs.Taking.{kept_take, key_takes}
use Rattle.line_world.proofs.Machines.{machine_taken}
use Rattle.line_world.proofs.Stores.{bytes_after, rest_default}
use Rattle.line_world.proofs.Heard.{kept_hear}
use Rattle.line_world.proofs.Changes.{kept_change_down, kept_change_up}

-- ---- the invariant

takes_kept : (m : Machine) (core : Core) (down up : List ℕ) (lost : Toll) → IsKept (scene m core down up lost) → IsKept (unwrap_or (takes (scene m core down up lost) down) (scene m core down up lost))
takes_kept m core [] up lost k = k
takes_kept m core (c ∷ down) up lost k = kept_take m core c down up lost (machine_taken m core c down up lost k) k

hears_kept : (m : Machine) (core : Core) (down up : List ℕ) (lost : Toll) → IsKept (scene m core down up lost) → IsKept (unwrap_or (host_hears (scene m core down up lost) up) (scene m core down up lost))
hears_kept m core down [] lost k = k
hears_kept m core down (c ∷ up) lost k = kept_hear m core c down up lost (kept core (Got c) k.host) k

silence_kept : (m : Machine) (core : Core) (down up : List ℕ) (lost : Toll) → IsKept (scene m core down up lost) → IsKept (unwrap_or (times_out (scene m core down up lost) down up) (scene m core down up lost))
silence_kept m core [] [] lost k = kept_silence m core lost (kept core Silence k.host) k
silence_kept m core (c ∷ down) up lost k = k
silence_kept m core [] (c ∷ up) lost k = k

pub under : (k n : ℕ) → ltb k n ≡ true → k < n
under k n e = grind (arith, nat_tests)

-- a place in a queue, or none
pub lost_if : (P : Scene → Type 0) (w next : Scene) (test : Bool) → P w → (test ≡ true → P next) → P (unwrap_or (if test then Some next else None) w)
lost_if P w next true here there = there refl
lost_if P w next false here there = here

pub kept_event : (w : Scene) (event : Event) → IsKept w → IsKept (happens w event)
kept_event w Take k = takes_kept w.machine w.core w.down w.up (toll_of w) k
kept_event w Hear k = hears_kept w.machine w.core w.down w.up (toll_of w) k
kept_event w (LoseDown n) k = lost_if IsKept w _ (ltb n (length w.down)) k (λ e. kept_lose_down w.machine w.core w.down w.up (toll_of w) n (under n _ e) k)
kept_event w (LoseUp n) k = lost_if IsKept w _ (ltb n (length w.up)) k (λ e. kept_lose_up w.machine w.core w.down w.up (toll_of w) n (under n _ e) k)
kept_event w (ChangeDown n c) k = lost_if IsKept w _ (w.core.careful && (ltb n (length w.down) && may_change w.changed (slice_index w.down n) c)) k (λ e. kept_change_down w.machine w.core w.down w.up (toll_of w) n c e k)
kept_event w (ChangeUp n c) k = lost_if IsKept w _ (w.core.careful && (ltb n (length w.up) && not w.changed)) k (λ e. kept_change_up w.machine w.core w.down w.up (toll_of w) n c e k)
kept_event w Quiet k = silence_kept w.machine w.core w.down w.up (toll_of w) k
kept_event w (Restart kept) k = kept_restart w.machine w.core w.down w.up (toll_of w) kept k

pub kept_events : (w : Scene) (events : List Event) → IsKept w → IsKept (after w events)
kept_events w [] k = k
kept_events w (event ∷ events) k = kept_events (happens w event) events (kept_event w event k)

-- ---- what stays

-- the plan stays, and each byte is as before or the image's
pub record Steps (w next : Scene) : Type 0 where
  pub plan : next.core.plan ≡ w.core.plan
  pub bytes : OnlyImage w.machine.memory w.core.plan.image next.machine.memory

same_bytes : (image : Image) (memory : List ℕ) → OnlyImage memory image memory
same_bytes image memory = record { size = refl; bytes = λ b below. inl refl }

stays : (w : Scene) → Steps w w
stays w = record { plan = refl; bytes = same_bytes w.core.plan.image w.machine.memory }

takes_steps : (m : Machine) (core : Core) (down up : List ℕ) (lost : Toll) → IsKept (scene m core down up lost) → Steps (scene m core down up lost) (unwrap_or (takes (scene m core down up lost) down) (scene m core down up lost))
takes_steps m core [] up lost k = stays (scene m core [] up lost)
takes_steps m core (c ∷ down) up lost k = record {
  plan = refl;
  bytes = bytes_after (ground (scene m core (c ∷ down) up lost)) (take_of m c).memory k.host.image (key_takes m core c down up lost k).memory;
}

hears_steps : (m : Machine) (core : Core) (down up : List ℕ) (lost : Toll) → Steps (scene m core down up lost) (unwrap_or (host_hears (scene m core down up lost) up) (scene m core down up lost))
hears_steps m core down [] lost = stays (scene m core down [] lost)
hears_steps m core down (c ∷ up) lost = record { plan = (moved core (Got c)).plan; bytes = same_bytes core.plan.image m.memory }

silence_steps : (m : Machine) (core : Core) (down up : List ℕ) (lost : Toll) → Steps (scene m core down up lost) (unwrap_or (times_out (scene m core down up lost) down up) (scene m core down up lost))
silence_steps m core [] [] lost = record { plan = (moved core Silence).plan; bytes = same_bytes core.plan.image m.memory }
silence_steps m core (c ∷ down) up lost = stays (scene m core (c ∷ down) up lost)
silence_steps m core [] (c ∷ up) lost = stays (scene m core [] (c ∷ up) lost)

pub steps_event : (w : Scene) (event : Event) → IsKept w → Steps w (happens w event)
steps_event w Take k = takes_steps w.machine w.core w.down w.up (toll_of w) k
steps_event w Hear k = hears_steps w.machine w.core w.down w.up (toll_of w)
steps_event w (LoseDown n) k = lost_if (Steps w) w _ (ltb n (length w.down)) (stays w) (λ e. record { plan = refl; bytes = same_bytes w.core.plan.image w.machine.memory })
steps_event w (LoseUp n) k = lost_if (Steps w) w _ (ltb n (length w.up)) (stays w) (λ e. record { plan = refl; bytes = same_bytes w.core.plan.image w.machine.memory })
steps_event w (ChangeDown n c) k = lost_if (Steps w) w _ (w.core.careful && (ltb n (length w.down) && may_change w.changed (slice_index w.down n) c)) (stays w) (λ e. record { plan = refl; bytes = same_bytes w.core.plan.image w.machine.memory })
steps_event w (ChangeUp n c) k = lost_if (Steps w) w _ (w.core.careful && (ltb n (length w.up) && not w.changed)) (stays w) (λ e. record { plan = refl; bytes = same_bytes w.core.plan.image w.machine.memory })
steps_event w Quiet k = silence_steps w.machine w.core w.down w.up (toll_of w)
steps_event w (Restart kept) k = record { plan = refl; bytes = same_bytes w.core.plan.image w.machine.memory }

-- first one thing, then another
only_then : (image : Image) (a b c : List ℕ) → OnlyImage a image b → OnlyImage b image c → OnlyImage a image c
only_then image a b c x y = record {
  size = y.size ∙ x.size;
  bytes = λ k below. elim (y.bytes k (let same = x.size in omega arith)) [
    | inl same ↦ elim (x.bytes k below) [ inl first ↦ inl (same ∙ first) | inr first ↦ inr (first ∙ ap (λ v. Some v) (sym same)) ]
    | inr now ↦ inr now
  ];
}

steps_then : (a b c : Scene) → Steps a b → Steps b c → Steps a c
steps_then a b c x y = record {
  plan = y.plan ∙ x.plan;
  bytes = only_then a.core.plan.image a.machine.memory b.machine.memory c.machine.memory x.bytes
      (subst (λ (p : PlanValue). OnlyImage b.machine.memory p.image c.machine.memory) x.plan y.bytes);
}

pub steps_events : (w : Scene) (events : List Event) → IsKept w → Steps w (after w events)
steps_events w [] k = stays w
steps_events w (event ∷ events) k = steps_then w (happens w event) (after (happens w event) events) (steps_event w event k) (steps_events (happens w event) events (kept_event w event k))

-- ---- safety

pub all_standing : (going : Bool) (verified n i : ℕ) → verified ≤ n → i < verified → i < (if going then n else verified)
all_standing true verified n i within below = omega arith
all_standing false verified n i within below = below

pub under_mark : (going : Bool) (verified n i : ℕ) → going ≡ true → i < n → i < (if going then n else verified)
under_mark going verified n i e below = rw e below

-- every word of the plan stands, so memory is the overlay
pub loaded : (before : List ℕ) (w : Scene) → IsPlan w.core.plan → ((i : ℕ) → i < length w.core.plan.words → IsThere (site_of w i)) → OnlyImage before w.core.plan.image w.machine.memory → IsLoaded before w.core.plan w.machine.memory
loaded before w fits words only = record {
  lies = λ i below. (words i below).0;
  overlay = IsOverlay-standing w.core.plan before w.machine.memory fits only.size
      (λ k d below. subst (λ v. Stands v (slice_index w.machine.memory (v.address / 2))) (rest_default w.core.plan.words k no_word d below) (Stands-unchanged (word_nr w.core.plan.words k) _ (words k below).1))
      (λ b below none. elim (only.bytes b below) [ inl same ↦ same | inr now ↦ absurd (cc) ]);
}

-- a world is safe from every memory that differs from its own by the image alone
pub safe_of : (before : List ℕ) (w : Scene) → IsKept w → OnlyImage before w.core.plan.image w.machine.memory → IsSafe before w.core w.machine.memory
safe_of before w k only = record {
  verified = record {
    lies = λ i below. (k.words i (all_standing w.core.going w.core.verified (length w.core.plan.words) i k.host.within below)).0;
    stands = λ i below. Stands-unchanged (word_nr w.core.plan.words i) _ (k.words i (all_standing w.core.going w.core.verified (length w.core.plan.words) i k.host.within below)).1;
  };
  bytes = only;
  going = λ e. loaded before w k.host.image (λ i below. k.words i (under_mark w.core.going w.core.verified (length w.core.plan.words) i e below)) only;
}

-- the world's memory is safe against an earlier one
abbrev SafeIn : List ℕ → Scene → Type 0
SafeIn before w = IsSafe before w.core w.machine.memory

safe_step : (before : List ℕ) (w next : Scene) → OnlyImage before w.core.plan.image w.machine.memory → IsKept next → Steps w next → SafeIn before next
safe_step before w next only k s =
    safe_of before next k (subst (λ (p : PlanValue). OnlyImage before p.image next.machine.memory) (sym s.plan) (only_then w.core.plan.image before w.machine.memory next.machine.memory only s.bytes))

pub safe_event : (w : Scene) (event : Event) → IsKept w → SafeIn w.machine.memory (happens w event)
safe_event w event k = safe_step w.machine.memory w (happens w event) (same_bytes w.core.plan.image w.machine.memory) (kept_event w event k) (steps_event w event k)

pub since_event : (before : List ℕ) (w : Scene) (event : Event) → IsKept w → SafeIn before w → SafeIn before (happens w event)
since_event before w event k safe = safe_step before w (happens w event) safe.bytes (kept_event w event k) (steps_event w event k)

pub safe_events : (w : Scene) (events : List Event) → IsKept w → SafeIn w.machine.memory (after w events)
safe_events w events k = safe_step w.machine.memory w (after w events) (same_bytes w.core.plan.image w.machine.memory) (kept_events w events k) (steps_events w events k)

pub since_events : (before : List ℕ) (w : Scene) (events : List Event) → IsKept w → SafeIn before w → SafeIn before (after w events)
since_events before w events k safe = safe_step before w (after w events) safe.bytes (kept_events w events k) (steps_events w events k)
