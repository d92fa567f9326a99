-- Events one after another: one more at the end of a list.
use Rattle.std.proofs.Common.{◌≡◌, ℕ, subst, ◌+◌, ◌≤◌, Bool, true, false, Some, None, Option, List, [], ◌∷◌, ◌++◌, length, refl, arith, ap, sym, ◌∙◌, ◌<◌, get_or, take}
use Rattle.std.proofs.lemmas.List.{take_more}
use Rattle.std.specs.Prelude.{if◌then◌else◌, is_some, IsSome}
use Rattle.host_core.specs.declared.phase.Phase.{Phase}
use Rattle.host_core.specs.declared.phase.End.{End}
use Rattle.host_core.specs.Core.{Core, ended}
use Rattle.line_world.specs.declared.event.Event.{Event}
use Rattle.line_world.specs.Scene.{Scene}
use Rattle.line_world.specs.Runs.{RunsTo}
use Rattle.line_world.specs.World.{occurs, happens, after, possible_count, first_event, IsCleanRun}

after_more : (w : Scene) (events : List Event) (event : Event) → after w (events ++ event ∷ []) ≡ happens (after w events) event
after_more w [] event = refl
after_more w (e ∷ events) event = after_more (happens w e) events event

count_more : (w : Scene) (events : List Event) (event : Event) → possible_count w (events ++ event ∷ []) ≡ possible_count w events + (if is_some (occurs (after w events) event) then 1 else 0)
count_more w [] event = omega arith
count_more w (e ∷ events) event = omega (arith, count_more (happens w e) events event)

one_at_most : (b : Bool) → (if b then 1 else 0) ≤ 1
one_at_most true = omega arith
one_at_most false = omega arith

pub count_length : (w : Scene) (events : List Event) → possible_count w events ≤ length events
count_length w [] = omega arith
count_length w (e ∷ events) = omega (arith, count_length (happens w e) events, one_at_most (is_some (occurs w e)))

-- the world and the count after one event more of a list
pub more_world : (w old new : Scene) (events : List Event) (i : ℕ) (d : Event) → i < length events → old ≡ after w (take i events) → new ≡ happens old (get_or events i d) → new ≡ after w (take (i + 1) events)
more_world w old new events i d below before now =
    now ∙ (ap (λ x. happens x (get_or events i d)) before ∙ (sym (after_more w (take i events) (get_or events i d)) ∙ ap (after w) (sym (take_more events i d below))))

pub more_count : (w old : Scene) (events : List Event) (i n : ℕ) (d : Event) (possible : Bool) → i < length events → old ≡ after w (take i events) → n ≡ possible_count w (take i events) → possible ≡ is_some (occurs old (get_or events i d)) →
    n + (if possible then 1 else 0) ≡ possible_count w (take (i + 1) events)
more_count w old events i n d possible below before count is =
    rw (take_more events i d below, count_more w (take i events) (get_or events i d), ← before, ← is, ← count) refl

-- events of a line that loses nothing, with no end on the way so far
abbrev IsCleanSoFar : Scene → List Event → Type 0
IsCleanSoFar w [] = Unit {0}
IsCleanSoFar w (event ∷ events) = (ended w.core.phase ≡ None) × (event ≡ first_event w) × IsCleanSoFar (happens w event) events

clean_more : (w : Scene) (events : List Event) (event : Event) → IsCleanSoFar w events → ended (after w events).core.phase ≡ None → event ≡ first_event (after w events) → IsCleanSoFar w (events ++ event ∷ [])
clean_more w [] event clean live is = (live, is, tt)
clean_more w (e ∷ events) event clean live is = (clean.0, clean.1, clean_more (happens w e) events event clean.2 live is)

clean_end : (w : Scene) (events : List Event) → IsCleanSoFar w events → IsSome (ended (after w events).core.phase) → IsCleanRun w events
clean_end w [] clean end = end
clean_end w (e ∷ events) clean end = (clean.0, clean.1, clean_end (happens w e) events clean.2 end)

pub one_more : (old new total : ℕ) (possible : Bool) → possible ≡ true → new ≡ old + 1 → old + (if possible then 1 else 0) ≡ total → new ≡ total
one_more old new total true is now count = now ∙ count
one_more old new total false is now count = absurd (cc)

pub none_more : (old new total : ℕ) (possible : Bool) → possible ≡ false → new ≡ old → old + (if possible then 1 else 0) ≡ total → new ≡ total
none_more old new total true is now count = absurd (cc)
none_more old new total false is now count = omega arith

-- some clean events lead from one world to the other
pub record CleanStretch (before now : Scene) : Type 0 where
  pub events : List Event
  pub clean : IsCleanSoFar before events
  pub world : now ≡ after before events

pub stretch_none : (w : Scene) → CleanStretch w w
stretch_none w = record { events = []; clean = tt; world = refl }

pub stretch_more : (before now next : Scene) (event : Event) → CleanStretch before now → ended now.core.phase ≡ None → event ≡ first_event now → next ≡ happens now event → CleanStretch before next
stretch_more before now next event s live is later = record {
  events = s.events ++ event ∷ [];
  clean = clean_more before s.events event s.clean (subst (λ (w : Scene). ended w.core.phase ≡ None) s.world live) (subst (λ (w : Scene). event ≡ first_event w) s.world is);
  world = later ∙ (ap (λ w. happens w event) s.world ∙ sym (after_more before s.events event));
}

pub stretch_end : (before now : Scene) (end : End) → CleanStretch before now → ended now.core.phase ≡ Some end → RunsTo before now end
stretch_end before now end s is = record {
  events = s.events;
  clean = clean_end before s.events s.clean (subst (λ (w : Scene). IsSome (ended w.core.phase)) s.world (has_end now.core.phase end is));
  world = s.world;
  end_is = is;
}
  where
    has_end : (phase : Phase) (end : End) → ended phase ≡ Some end → IsSome (ended phase)
    has_end phase end is = rw is refl

-- what the host's end says of a world's phase
pub phase_end : (core now : Core) (end : Option End) → end ≡ ended core.phase → core ≡ now → ended now.phase ≡ end
phase_end core now end is same = subst (λ (c : Core). ended c.phase ≡ end) same (sym is)
