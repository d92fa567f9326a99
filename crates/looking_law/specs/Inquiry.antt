-- The world of a host that only looks: its machine, its line and its events are those of the loading host's world; only the host at the end of the line
-- is another.
use Rattle.std.specs.Prelude.{ℕ, false, List, []}
use Rattle.odt_machine.specs.Machine.{Machine}
use Rattle.line_world.specs.declared.event.Event.{Event}
use Rattle.line_world.specs.Scene.{World}
use Rattle.line_world.specs.Happening.{Kind, happens as any_happens, after as any_after, typed_in as any_typed_in, typed as any_typed}
use Rattle.reading_core.specs.Reader.{Reader, restarted}
use Rattle.reading_core.specs.ReadingTable.{ask}

abbrev pub Inquiry : Type 0
Inquiry = World Reader

-- the reading host; a line that it is at changes no character
abbrev pub reading : Kind Reader
reading = record {
  next = λ r what. (ask r what).next;
  key = λ r what. (ask r what).key;
  begins = λ r what. false;
  restarted = restarted;
  careful = λ r. false;
}

-- the world after an event, an impossible one skipped
abbrev pub happens : Inquiry → Event → Inquiry
happens w event = any_happens reading w event

-- the world after a list of events, the impossible ones skipped
abbrev pub after : Inquiry → List Event → Inquiry
after w events = any_after reading w events

-- the keys that the host sends in an event
abbrev pub typed_in : Inquiry → Event → List ℕ
typed_in w event = any_typed_in reading w event

-- the keys of all the events, in the order in which they are sent
abbrev pub typed : Inquiry → List Event → List ℕ
typed w events = any_typed reading w events

-- the world at its opening: these answers wait, no key is under way, nothing is lost
abbrev pub opened : Machine → Reader → List ℕ → Inquiry
opened machine reader waiting = record { machine = machine; core = reader; down = []; up = waiting; lost = 0; changed = false }
