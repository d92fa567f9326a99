-- The events of a world, the world after them, and the keys that the host types on the way: for a host of any kind.
use Rattle.std.specs.Prelude.{ℕ, ◌&&◌, not, Bool, true, false, nat_lt, if◌then◌else◌, List, [], ◌∷◌, ◌++◌, length, slice_index}
use Rattle.std.specs.Prelude.{Option, Some, None, unwrap_or, option_to_list}
use Rattle.odt_machine.specs.KeyTable.{take_of}
use Rattle.host_core.specs.declared.heard.Heard.{Heard}
use Rattle.host_core.specs.declared.heard.Heard.TheVariants.{Got, Quiet as Silence}
use Rattle.line_world.specs.declared.event.Event.{Event}
use Rattle.line_world.specs.declared.event.Event.TheVariants.{Take, Hear, LoseDown, LoseUp, ChangeDown, ChangeUp, Quiet, Restart}
use Rattle.line_world.specs.Scene.{World, wire_of, over, over_when}
use Rattle.line_world.specs.Wire.{with_answer, without_down, without_up, changed_down, changed_up, may_change, heard, sent, forgiven}

-- a kind of host: what one becomes on a thing heard, the character that it sends then, and whether a new attempt at a word begins with it; how a new
-- life of it begins; and whether it is careful: only then may the line change characters
pub record Kind (H : Type 0) : Type 0 where
  pub next : H → Heard → H
  pub key : H → Heard → Option ℕ
  pub begins : H → Heard → Bool
  pub restarted : H → ℕ → H
  pub careful : H → Bool

-- the world after the host heard something, of which `rest` is left under way: what it sends stands at the end of `down`
abbrev pub hearing : {H : Type 0} → Kind H → World H → List ℕ → Heard → World H
hearing kind w rest what =
    over_when (if kind.begins w.core what then false else w.changed) (kind.next w.core what)
    (sent (heard (wire_of w) rest) (option_to_list (kind.key w.core what)))

-- Take, where a key is under way
abbrev pub takes : {H : Type 0} → World H → List ℕ → Option (World H)
takes w [] = None
takes w (c ∷ rest) = Some (over_when w.changed w.core (with_answer (wire_of w) rest (take_of w.machine c)))

-- Hear, where an answer character is under way
abbrev pub host_hears : {H : Type 0} → Kind H → World H → List ℕ → Option (World H)
host_hears kind w [] = None
host_hears kind w (c ∷ rest) = Some (hearing kind w rest (Got c))

-- Quiet, where nothing is under way
abbrev pub times_out : {H : Type 0} → Kind H → World H → List ℕ → List ℕ → Option (World H)
times_out kind w [] [] = Some (hearing kind w [] Silence)
times_out kind w down up = None

-- the world after an event, or none where the event is not possible
abbrev pub occurs : {H : Type 0} → Kind H → World H → Event → Option (World H)
occurs kind w Take = takes w w.down
occurs kind w Hear = host_hears kind w w.up
occurs kind w (LoseDown k) = if nat_lt k (length w.down) then Some (over_when w.changed w.core (without_down (wire_of w) k)) else None
occurs kind w (LoseUp k) = if nat_lt k (length w.up) then Some (over_when w.changed w.core (without_up (wire_of w) k)) else None
occurs kind w (ChangeDown k c) =
    if kind.careful w.core && (nat_lt k (length w.down) && may_change w.changed (slice_index w.down k) c)
    then Some (over_when true w.core (changed_down (wire_of w) k c)) else None
occurs kind w (ChangeUp k c) =
    if kind.careful w.core && (nat_lt k (length w.up) && not w.changed) then Some (over_when true w.core (changed_up (wire_of w) k c)) else None
occurs kind w Quiet = times_out kind w w.down w.up
occurs kind w (Restart kept) = Some (over (kind.restarted w.core kept) (forgiven (wire_of w)))

-- the world after an event, an impossible one skipped
abbrev pub happens : {H : Type 0} → Kind H → World H → Event → World H
happens kind w event = unwrap_or (occurs kind w event) w

-- the world after a list of events, the impossible ones skipped
abbrev pub after : {H : Type 0} → Kind H → World H → List Event → World H
after kind w [] = w
after kind w (event ∷ events) = after kind (happens kind w event) events

-- what the host sends on hearing
abbrev pub typed_hearing : {H : Type 0} → Kind H → World H → List ℕ → List ℕ
typed_hearing kind w [] = []
typed_hearing kind w (c ∷ rest) = option_to_list (kind.key w.core (Got c))

-- what the host sends at a timeout
abbrev pub typed_timeout : {H : Type 0} → Kind H → World H → List ℕ → List ℕ → List ℕ
typed_timeout kind w [] [] = option_to_list (kind.key w.core Silence)
typed_timeout kind w down up = []

-- the keys that the host sends in an event
abbrev pub typed_in : {H : Type 0} → Kind H → World H → Event → List ℕ
typed_in kind w Hear = typed_hearing kind w w.up
typed_in kind w Quiet = typed_timeout kind w w.down w.up
typed_in kind w event = []

-- the keys of all the events, in the order in which they are sent
abbrev pub typed : {H : Type 0} → Kind H → World H → List Event → List ℕ
typed kind w [] = []
typed kind w (event ∷ events) = typed_in kind w event ++ typed kind (happens kind w event) events
