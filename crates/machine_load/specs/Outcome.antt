-- What a load gives back that was reported.
use Rattle.std.specs.Prelude.{None}
use Rattle.engine.specs.declared.stop.Stop.TheVariants.{Ended}
use Rattle.host_core.specs.declared.phase.End.{End}
use Rattle.host_core.specs.Core.{Core}
use Rattle.machine_load.specs.declared.load_end.LoadEnd.TheVariants.{Driven}
use Rattle.machine_load.specs.declared.lived.Lived.{Lived}
use Rattle.machine_load.specs.declared.outcome.Outcome.{Outcome}

-- a life that was over before it had begun
abbrev pub lived_at_once : {L : Type 0} → Core → End → Lived L
lived_at_once first end = record { core = first; end = Driven (Ended end); looks = None; stubs = None; again = None; line = None }

-- one whose life came to this gives back this
abbrev pub outcome_of : {L : Type 0} → Lived L → Outcome L
outcome_of lived = record { end = lived.end; marked = lived.core.going; stubs = lived.stubs; line = lived.line }
