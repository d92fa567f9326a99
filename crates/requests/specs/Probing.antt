-- What becomes of a request to probe a console.
use Rattle.std.specs.Prelude.{◌≡◌, ◌⊎◌, Ok, Err}
use Rattle.probe_report.specs.declared.probe_end.ProbeEnd.{ProbeEnd}
use Rattle.console_lines.specs.Console.{ConsoleTold}
use Rattle.machine_probe.specs.Probe.{IsProbeReported, OverSome}
use Rattle.machine_probe.specs.ProbeFault.{IsProbeFault}
use Rattle.machine_probe.specs.declared.probe_fault.ProbeFault.{ProbeFault}
use Rattle.machine_probe.specs.declared.probe_options.ProbeOptions.{ProbeOptions}
use Rattle.endings.specs.declared.failure.Failure.{Failure}
use Rattle.endings.specs.declared.status.Status.{Status}
use Rattle.requests.specs.Ending.{IsFailureOf, after_probe}
use Rattle.requests.specs.declared.request_fault.RequestFault.TheVariants as request_fault
use Rattle.request_values.specs.declared.machine.Probe.{Probe}
use Rattle.request_values.specs.Change.{Change}
use Rattle.requests.specs.Moment.{AsksNoDisk, Moment, TakesNoInput, consoles_at}

-- what is to be probed, and how, as the request has it
abbrev pub probe_options : Probe → ProbeOptions
probe_options request = record { address = request.address; patience = request.look.patience }

-- a console was probed, over a line that was reached for it, and so the probe ended
abbrev pub IsProbeEnded : Probe → Change ConsoleTold → ProbeEnd → Type 0
IsProbeEnded request console end = IsProbeReported OverSome (probe_options request) console end

-- or it came to nothing
abbrev pub IsProbeUnreported : Probe → Change ConsoleTold → ProbeFault → Type 0
IsProbeUnreported request console fault = IsProbeFault OverSome (probe_options request) console fault

-- a console was probed
abbrev pub IsProbeOver : Probe → Change ConsoleTold → Status → Type 0
IsProbeOver request console status = (end : ProbeEnd) × IsProbeEnded request console end × (after_probe end ≡ Ok status)

-- a probe came to nothing
pub record IsProbeInVain (request : Probe) (console : Change ConsoleTold) (failure : Failure) : Type 0 where
  pub fault : ProbeFault
  pub is_so : IsProbeUnreported request console fault
  pub is_called : IsFailureOf (request_fault.Probe fault) request.look.line.now request.look.line.now failure

-- a probe failed: it came to nothing, or it was reported and its line had failed
abbrev pub IsProbeFailure : Probe → Change ConsoleTold → Failure → Type 0
IsProbeFailure request console failure =
    IsProbeInVain request console failure
    ⊎ ((end : ProbeEnd) × IsProbeEnded request console end × (after_probe end ≡ Err failure))

-- the console that is named was probed, and nothing else was asked or read
pub record IsConsoleProbed (request : Probe) (moments : Change Moment) (status : Status) : Type 0 where
  pub probed : IsProbeOver request (consoles_at request.look moments) status
  pub no_disk : AsksNoDisk moments
  pub no_input : TakesNoInput moments

-- or the probe failed
pub record IsConsoleUnprobed (request : Probe) (moments : Change Moment) (failure : Failure) : Type 0 where
  pub failed : IsProbeFailure request (consoles_at request.look moments) failure
  pub no_disk : AsksNoDisk moments
  pub no_input : TakesNoInput moments
