-- The report of `load` (this project's own). Counts of characters and mishaps are those of the life, with its looks and its stubs.
use Rattle.std.specs.Prelude.{ℕ, List, ◌++◌, length, codes, decimal}
use Rattle.octal.specs.Octal.{octal_text}
use Rattle.host_core.specs.Core.{Core}
use Rattle.host_core.specs.End.{end_name}
use Rattle.load_engine.specs.Driving.{LoadStop as Stop}
use Rattle.engine.specs.Stopping.{cut_name}
use Rattle.engine.specs.declared.stop.Stop.TheVariants.{Ended, KeepFailed, CutOff}
use Rattle.byte_io.specs.Text.{line}
use Rattle.machine_load.specs.declared.load_end.LoadEnd.{LoadEnd}
use Rattle.machine_load.specs.declared.load_end.LoadEnd.TheVariants.{Driven, Unfinished, Stale}

-- the characters sent, the mishaps, and how many words of the plan are verified
abbrev pub load_counts_text : Core → List ℕ
load_counts_text core =
    codes "sent " ++ decimal core.sent ++ codes " spent " ++ decimal core.spent ++ codes " verified " ++ decimal core.verified
    ++ codes " of " ++ decimal (length core.plan.words)

-- how an engine stopped
abbrev pub stop_name : Stop → List ℕ
stop_name (Ended end) = end_name end
stop_name (KeepFailed fault) = codes "KeepFailed"
stop_name (CutOff cut) = cut_name cut

-- how the load ended: of a record that memory does not hold, the first address at which that was seen
abbrev pub end_text : LoadEnd → List ℕ
end_text (Driven stop) = stop_name stop
end_text (Unfinished stop) = stop_name stop
end_text (Stale address) = codes "Stale " ++ octal_text address

-- the counts, and how the load ended
abbrev pub load_report : Core → LoadEnd → List ℕ
load_report core end = line (load_counts_text core) ++ line (codes "end " ++ end_text end)
