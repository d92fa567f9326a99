-- What may be believed of the engine's answer over an honest line.
use Rattle.std.specs.Prelude.{List, Option, Some, None, ⊤}
use Rattle.host_devices.specs.declared.item.Item.{Item}
use Rattle.host_devices.specs.Dialogue.{heard_of}
use Rattle.engine.specs.Session.{HasGained, Turns}
use Rattle.engine.specs.declared.stop.Stop.{Stop}
use Rattle.engine.specs.declared.stop.Cut.TheVariants.{LineFailed, TurnsOver}
use Rattle.engine.specs.declared.stop.Stop.TheVariants.{Ended, KeepFailed, CutOff}
use Rattle.memory_core.specs.declared.phase.End.{End}
use Rattle.memory_core.specs.Tester.{Tester}
use Rattle.memory_law.specs.Testing.{dialogue, IsBelievable}
use Rattle.memory_engine.specs.Leading.{tests}

-- the tester may be believed wherever the list that was said is honest. After a failure of the line its last mishap may be one
-- that no loss paid for, since the key that came next was never sent, unless the list is honest with the key that it lacks,
-- which may have gone out. Nothing fails to be kept of a test
abbrev pub IsBelievableAt : Option (Stop End) → Tester → Tester → List Item → Type 0
IsBelievableAt (Some (Ended end)) old new said = IsBelievable old new said 0
IsBelievableAt (Some (CutOff TurnsOver)) old new said = IsBelievable old new said 0
IsBelievableAt (Some (CutOff (LineFailed fault))) old new said = IsBelievable old new said 1 × IsBelievable old new (dialogue old (heard_of said)) 0
IsBelievableAt (Some (KeepFailed fault)) old new said = ⊤
IsBelievableAt None old new said = ⊤

-- so it is of turns over a line that tells what was said on it
abbrev pub IsBelievableOver : Turns tests → Option (List Item) → Option (List Item) → Type 0
IsBelievableOver turns line line' = (said : List Item) → HasGained line line' said → IsBelievableAt turns.stop turns.old.core turns.new.core said
