-- Characters that no loss explains where a host only looks: it awaits nothing that a loading host that does the same does not await (host_core's
-- Foreign).
use Rattle.std.specs.Prelude.{ℕ, ◌+◌, not, Bool, true, false, nat_lt, if◌then◌else◌}
use Rattle.host_core.specs.declared.heard.Heard.{Heard}
use Rattle.host_core.specs.declared.heard.Heard.TheVariants.{Got, Quiet}
use Rattle.host_core.specs.declared.phase.Phase.{Phase as LoadPhase}
use Rattle.host_core.specs.declared.phase.Phase.TheVariants.{Settle as LoadSettle, Sync as LoadSync, Address as LoadAddress, Slash as LoadSlash, Before as LoadBefore, Value as LoadValue, Return, Ended as LoadEnded}
use Rattle.host_core.specs.declared.phase.Visit.TheVariants.{Look}
use Rattle.host_core.specs.declared.phase.Reason.TheVariants.{Close as Closes}
use Rattle.host_core.specs.declared.phase.End.{End as LoadEnd}
use Rattle.host_core.specs.declared.phase.End.TheVariants.{Loaded, GaveUp as LoadGaveUp, NoWord as LoadNoWord}
use Rattle.host_core.specs.Foreign.{may_come}
use Rattle.reading_core.specs.declared.phase.Phase.{Phase}
use Rattle.reading_core.specs.declared.phase.Phase.TheVariants.{Settle, Sync, Address, Slash, Before, Value, Close, Refused, Ended}
use Rattle.reading_core.specs.declared.phase.End.{End}
use Rattle.reading_core.specs.declared.phase.End.TheVariants.{Complete, GaveUp, NoWord}

abbrev pub end_for : End → LoadEnd
end_for Complete = Loaded
end_for GaveUp = LoadGaveUp
end_for (NoWord a) = LoadNoWord a

-- the phase of a loading host that awaits the same answer
abbrev pub phase_for : Phase → LoadPhase
phase_for Settle = LoadSettle
phase_for (Sync place) = LoadSync place
phase_for (Address place) = LoadAddress Look place
phase_for Slash = LoadSlash Look
phase_for Before = LoadBefore Look
phase_for (Value value place) = LoadValue Look value place
phase_for (Close place) = Return Closes place
phase_for (Refused place) = Return Closes place
phase_for (Ended end) = LoadEnded (end_for end)

-- no loss explains what is heard, where the word under way has this address
abbrev pub is_foreign : ℕ → Phase → Heard → Bool
is_foreign address phase (Got c) = not (may_come false address 0 (phase_for phase) c)
is_foreign address phase Quiet = false

-- a count behind one thing heard that is such a character, or is none; it stays at its largest
abbrev pub count_after : ℕ → Bool → ℕ
count_after count true = if nat_lt count 4294967295 then count + 1 else count
count_after count false = count
