-- What becomes of a look, of a probe and of a test, by what each came to.
use Rattle.std.proofs.Common.{◌≡◌, Result, Ok, Err, IfOk, IfErr, inr, sym}
use Rattle.console_lines.specs.Console.{ConsoleTold}
use Rattle.tape_image.specs.Plan.{PlanValue}
use Rattle.machine_look.specs.Verify.{IsVerifyReported}
use Rattle.machine_look.specs.declared.verify_end.VerifyEnd.{VerifyEnd}
use Rattle.machine_memory.specs.declared.memory_end.MemoryEnd.{MemoryEnd}
use Rattle.probe_report.specs.declared.probe_end.ProbeEnd.{ProbeEnd}
use Rattle.endings.specs.declared.failure.Failure.{Failure}
use Rattle.endings.specs.declared.status.Status.{Status}
use Rattle.request_values.specs.Change.{Change}
use Rattle.request_values.specs.declared.machine.Look.{Look}
use Rattle.request_values.specs.declared.machine.MemoryTest.{MemoryTest}
use Rattle.request_values.specs.declared.machine.Probe.{Probe}
use Rattle.requests.specs.Ending.{after_probe, after_test, after_verify}
use Rattle.requests.specs.Verifying.{IsVerifyFailure, IsVerifyOver, options_of}
use Rattle.requests.specs.Probing.{IsProbeEnded, IsProbeFailure, IsProbeOver}
use Rattle.requests.specs.Testing.{IsTestEnded, IsTestFailure, IsTestOver}

module _ (plan : PlanValue) (look : Look) (console : Change ConsoleTold) (end : VerifyEnd) (reported : IsVerifyReported plan (options_of look) console end) where
  pub verified : (result : Result Status Failure) → result ≡ after_verify end → IfOk result (IsVerifyOver plan look console)
  verified (Ok status) is = (end, reported, sym is)
  verified (Err failure) is = tt

  pub unverified : (result : Result Status Failure) → result ≡ after_verify end → IfErr result (IsVerifyFailure plan look console)
  unverified (Ok status) is = tt
  unverified (Err failure) is = inr (end, reported, sym is)

module _ (request : Probe) (console : Change ConsoleTold) (end : ProbeEnd) (reported : IsProbeEnded request console end) where
  pub probed : (result : Result Status Failure) → result ≡ after_probe end → IfOk result (IsProbeOver request console)
  probed (Ok status) is = (end, reported, sym is)
  probed (Err failure) is = tt

  pub unprobed : (result : Result Status Failure) → result ≡ after_probe end → IfErr result (IsProbeFailure request console)
  unprobed (Ok status) is = tt
  unprobed (Err failure) is = inr (end, reported, sym is)

module _ (request : MemoryTest) (console : Change ConsoleTold) (end : MemoryEnd) (reported : IsTestEnded request console end) where
  pub tested : (result : Result Status Failure) → result ≡ after_test end → IfOk result (IsTestOver request console)
  tested (Ok status) is = (end, reported, sym is)
  tested (Err failure) is = tt

  pub untested : (result : Result Status Failure) → result ≡ after_test end → IfErr result (IsTestFailure request console)
  untested (Ok status) is = tt
  untested (Err failure) is = inr (end, reported, sym is)
