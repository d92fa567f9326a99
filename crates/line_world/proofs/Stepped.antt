-- The loading host's world behind a key taken, and behind a step of the host, by what the tables give; and what the line has done then.
use Rattle.std.specs.Prelude.{ℕ, ◌+◌, true, false, if◌then◌else◌, List, Option, option_to_list}
use Rattle.odt_machine.specs.KeyTable.{Taken}
use Rattle.host_core.specs.declared.phase.Phase.{Phase}
use Rattle.host_core.specs.Core.{begins_attempt}
use Rattle.host_core.specs.PhaseTable.{Move}
use Rattle.line_world.specs.Scene.{Scene, Toll, wire_of, over_when}
use Rattle.line_world.specs.Wire.{with_answer, heard, sent}
use Rattle.line_world.specs.World.{renewing}

-- ODT took the first of `down`, of which `rest` is left
abbrev pub answered : Scene → List ℕ → Taken → Scene
answered w rest t = over_when w.changed w.core (with_answer (wire_of w) rest t)

-- what the host sends stands at the end of `down`
abbrev pub stepped : Scene → List ℕ → Move → Scene
stepped w rest m = over_when (if renewing m.key m.next.phase then false else w.changed) m.next (sent (heard (wire_of w) rest) (option_to_list m.key))

-- nothing was lost or changed yet
abbrev pub none_yet : Toll
none_yet = record { count = 0; hurt = false }

-- one character more was lost
abbrev pub lost_one : Toll → Toll
lost_one t = record { count = t.count + 1; hurt = t.hurt }

-- one character more was changed
abbrev pub changed_one : Toll → Toll
changed_one t = record { count = t.count + 1; hurt = true }

-- behind a key that was sent: in a new attempt no character is changed yet
abbrev pub renewed : Phase → Toll → Toll
renewed phase t = record { count = t.count; hurt = if begins_attempt phase then false else t.hurt }

-- behind a key, or none
abbrev pub onward : Option ℕ → Phase → Toll → Toll
onward key phase t = record { count = t.count; hurt = if renewing key phase then false else t.hurt }
