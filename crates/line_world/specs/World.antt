-- The world of the loading host, and the events of a line that loses nothing.
use Rattle.std.specs.Prelude.{◌≡◌, ℕ, ◌+◌, ◌-◌, ◌*◌, Bool, false, if◌then◌else◌, ◌||◌, List, [], ◌∷◌, length}
use Rattle.std.specs.Prelude.{Option, Some, None, is_some, IsSome}
use Rattle.host_core.specs.Core.{Core, begins_attempt, ended, restarted}
use Rattle.host_core.specs.Bound.{character_bound}
use Rattle.host_core.specs.PhaseTable.{move}
use Rattle.host_core.specs.Foreign.{is_foreign}
use Rattle.host_core.specs.declared.heard.Heard.TheVariants.{Got}
use Rattle.host_core.specs.declared.phase.Phase.{Phase}
use Rattle.line_world.specs.declared.event.Event.{Event}
use Rattle.line_world.specs.declared.event.Event.TheVariants.{Take, Hear, Quiet}
use Rattle.line_world.specs.Scene.{Scene}
use Rattle.line_world.specs.Happening.{Kind, takes as any_takes, host_hears as any_hears, times_out as any_timeout, occurs as any_occurs, happens as any_happens, after as any_after}
use Rattle.line_world.specs.Happening.{typed_hearing as any_typed_hearing, typed_timeout as any_typed_timeout, typed_in as any_typed_in, typed as any_typed}

-- an attempt begins where a key is sent, into a phase with which one begins
abbrev pub renewing : Option ℕ → Phase → Bool
renewing None phase = false
renewing (Some key) phase = begins_attempt phase

-- the loading host
abbrev pub loading : Kind Core
loading = record {
  next = λ core what. (move core what).next;
  key = λ core what. (move core what).key;
  begins = λ core what. renewing (move core what).key (move core what).next.phase;
  restarted = restarted;
  careful = λ core. core.careful;
}

-- each of the world's events and what comes of it, with this host
abbrev pub takes : Scene → List ℕ → Option Scene
takes w down = any_takes w down

abbrev pub host_hears : Scene → List ℕ → Option Scene
host_hears w up = any_hears loading w up

abbrev pub times_out : Scene → List ℕ → List ℕ → Option Scene
times_out w down up = any_timeout loading w down up

abbrev pub occurs : Scene → Event → Option Scene
occurs w event = any_occurs loading w event

abbrev pub happens : Scene → Event → Scene
happens w event = any_happens loading w event

abbrev pub after : Scene → List Event → Scene
after w events = any_after loading w events

abbrev pub typed_hearing : Scene → List ℕ → List ℕ
typed_hearing w up = any_typed_hearing loading w up

abbrev pub typed_timeout : Scene → List ℕ → List ℕ → List ℕ
typed_timeout w down up = any_typed_timeout loading w down up

abbrev pub typed_in : Scene → Event → List ℕ
typed_in w event = any_typed_in loading w event

abbrev pub typed : Scene → List Event → List ℕ
typed w events = any_typed loading w events

-- how many of the events were possible, each in its turn
abbrev pub possible_count : Scene → List Event → ℕ
possible_count w [] = 0
possible_count w (event ∷ events) = (if is_some (occurs w event) then 1 else 0) + possible_count (happens w event) events

-- this event is a timeout that is possible
abbrev pub is_timeout : Scene → Event → Bool
is_timeout w Quiet = is_some (occurs w Quiet)
is_timeout w event = false

-- some timeout among the events was possible
abbrev pub had_timeout : Scene → List Event → Bool
had_timeout w [] = false
had_timeout w (event ∷ events) = is_timeout w event || had_timeout (happens w event) events

-- no loss explains the next character that the host hears
abbrev pub hears_foreign : Core → List ℕ → Bool
hears_foreign core [] = false
hears_foreign core (c ∷ up) = is_foreign core (Got c)

-- the first possible of Take, Hear and Quiet
abbrev pub first_of : List ℕ → List ℕ → Event
first_of (c ∷ down) up = Take
first_of [] (c ∷ up) = Hear
first_of [] [] = Quiet

-- what happens next on a line that loses nothing
abbrev pub first_event : Scene → Event
first_event w = first_of w.down w.up

-- the events are those of a line that loses nothing, up to the first end
abbrev pub IsCleanRun : Scene → List Event → Type 0
IsCleanRun w [] = IsSome (ended w.core.phase)
IsCleanRun w (event ∷ events) = (ended w.core.phase ≡ None) × (event ≡ first_event w) × IsCleanRun (happens w event) events

-- a bound on what is still to happen on a line that loses nothing: it falls with each such event. A key under way counts more than its answer can
-- have characters, which are at most nine, and one that may still be sent counts more than one under way
abbrev pub work_left : Scene → ℕ
work_left w =
    12 * (character_bound w.core.careful (length w.core.plan.words) w.core.patience - w.core.sent) + 11 * length w.down + length w.up
    + (if is_some (ended w.core.phase) then 0 else 1)
