-- The line of a run at a machine in a log (this project's own).
use Rattle.std.specs.Prelude.{ℕ, ◌==◌, if◌then◌else◌, List, [], ◌∷◌, ◌++◌, Option, codes, decimal}
use Rattle.std.specs.Borrow.{Bor}
use Rattle.std.specs.List.{flat_map}
use Rattle.byte_io.specs.Text.{line}
use Rattle.endings.specs.Failure.{shown_name}
use Rattle.endings.specs.FaultOutput.{StandardError, IsSaidOnError}
use Rattle.endings.specs.Status.{status_code}
use Rattle.endings.specs.declared.status.Status.{Status}
use Rattle.request_values.specs.declared.request.MachineRequest.{MachineRequest}
use Rattle.request_values.specs.declared.request.MachineRequest.TheVariants.{Load, Verify, Save, Probe, Memory}
use Rattle.run_log.specs.Report.{Noted, report_text}
use Rattle.run_log.specs.TimeText.{IsTimeText}

-- a name behind other words, as a fault shows it
abbrev pub name_behind : List ℕ → List ℕ
name_behind name = codes " " ++ shown_name name

-- names behind other words, in their order
abbrev pub names_behind : List (Bor (List ℕ)) → List ℕ
names_behind names = flat_map (λ name. name_behind name.now) names

-- a command, and behind it names and the line
abbrev pub command_text : List ℕ → List (Bor (List ℕ)) → List ℕ → List ℕ
command_text command names line_name = command ++ (names_behind names ++ name_behind line_name)

-- what was asked for: the command, its tapes or its file, and the line
abbrev pub request_text : MachineRequest → List ℕ
request_text (Load tapes load) = command_text (codes "load") tapes.items load.line.now
request_text (Verify tapes look) = command_text (codes "verify") tapes.items look.line.now
request_text (Save save) = command_text (codes "save") (save.file ∷ []) save.look.line.now
request_text (Probe probe) = command_text (codes "probe") [] probe.look.line.now
request_text (Memory test) = command_text (codes "memory") [] test.look.line.now

-- how many characters came changed, where any did
abbrev pub changed_text : ℕ → List ℕ
changed_text count = if count == 0 then [] else codes " changed " ++ decimal count

-- a run that ended: what was asked for, how the program ends, what is noted of the report, and how many characters came changed
pub record RunValue : Type 0 where
  pub request : MachineRequest
  pub status : Status
  pub report : Noted
  pub changed : ℕ

-- what stands behind the names
abbrev pub end_text : RunValue → List ℕ
end_text run = codes " status " ++ (decimal (status_code run.status) ++ (report_text run.report ++ changed_text run.changed))

-- the line of a run that ended at this time
abbrev pub log_line : List ℕ → RunValue → List ℕ
log_line time run = line (time ++ (codes " " ++ (request_text run.request ++ end_text run)))

-- standard error has the line of a run behind all else, with the time of some clock
abbrev pub IsLogged : RunValue → StandardError → StandardError → Type 0
IsLogged run err err' = (now : Option ℕ) × (time : List ℕ) × IsTimeText now time × IsSaidOnError err err' (log_line time run)
