-- How the engine stopped.
use Rattle.std.specs.Prelude.{◌≡◌, ℕ, List, codes, Option, Some, None, ⊤}
use Rattle.host_devices.specs.declared.fault.KeepFault.{KeepFault}
use Rattle.host_devices.specs.declared.fault.LineFault.{LineFault}
use Rattle.engine.specs.declared.stop.Cut.{Cut}
use Rattle.engine.specs.declared.stop.Stop.{Stop}
use Rattle.engine.specs.declared.stop.Cut.TheVariants.{LineFailed, TurnsOver}
use Rattle.engine.specs.declared.stop.Stop.TheVariants.{Ended, KeepFailed, CutOff}

-- the line's fault that a stop names, if it names one
abbrev pub line_fault : {End : Type 0} → Option (Stop End) → Option LineFault
line_fault (Some (CutOff (LineFailed fault))) = Some fault
line_fault other = None

-- the keeper's fault that a stop names, if it names one
abbrev pub keep_fault : {End : Type 0} → Option (Stop End) → Option KeepFault
keep_fault (Some (KeepFailed fault)) = Some fault
keep_fault other = None

-- an engine that stopped without a fault tells the host's end, or that there is none
abbrev pub TellsEnd : {End : Type 0} → Stop End → Option End → Type 0
TellsEnd (Ended end) ended = ended ≡ Some end
TellsEnd (CutOff TurnsOver) ended = ended ≡ None
TellsEnd other ended = ⊤

-- a stop that a device's failure made
abbrev pub IsFailure : {End : Type 0} → Stop End → Type 0
IsFailure (CutOff (LineFailed fault)) = ⊤
IsFailure (KeepFailed fault) = ⊤
IsFailure other = ⊥

-- the keys that were not sent, where a device failed, may have cost a mishap that no loss paid for
abbrev pub unpaid : {End : Type 0} → Option (Stop End) → ℕ
unpaid (Some (CutOff (LineFailed fault))) = 1
unpaid (Some (KeepFailed fault)) = 1
unpaid other = 0

-- the name of what cut an engine off, as each report has it
abbrev pub cut_name : Cut → List ℕ
cut_name (LineFailed fault) = codes "LineFailed"
cut_name TurnsOver = codes "TurnsOver"
