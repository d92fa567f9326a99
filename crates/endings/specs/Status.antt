-- The exit status of the program (this project's own).
use Rattle.std.specs.Prelude.{ℕ}
use Rattle.host_core.specs.declared.phase.End.{End}
use Rattle.host_core.specs.declared.phase.End.TheVariants as end
use Rattle.endings.specs.declared.status.Status.{Status}
use Rattle.endings.specs.declared.status.Status.TheVariants.{Done, Differs, BadCommandLine, Refused, DeviceFailed, NotLoaded, Uncertain, NoMemory}

-- the number of each ending
abbrev pub status_code : Status → ℕ
status_code Done = 0
status_code Differs = 1
status_code BadCommandLine = 2
status_code Refused = 3
status_code DeviceFailed = 4
status_code NotLoaded = 5
status_code Uncertain = 6
status_code NoMemory = 7

-- how the program ended where a load ended so
abbrev pub end_status : End → Status
end_status end.Loaded = Done
end_status end.Started = Done
end_status (end.NoWord address) = NotLoaded
end_status (end.WontHold address) = NotLoaded
end_status end.GaveUp = NotLoaded
end_status end.Uncertain = Uncertain
end_status end.MaybeStarted = Uncertain
