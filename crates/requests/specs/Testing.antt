-- What becomes of a request to test the memory of a real machine.
use Rattle.std.specs.Prelude.{◌≡◌, ◌⊎◌, Ok, Err}
use Rattle.console_lines.specs.Console.{ConsoleTold}
use Rattle.machine_probe.specs.Probe.{OverSome}
use Rattle.machine_memory.specs.MemoryFault.{IsMemoryFault}
use Rattle.machine_memory.specs.Tested.{IsMemoryTested}
use Rattle.machine_memory.specs.declared.memory_end.MemoryEnd.{MemoryEnd}
use Rattle.machine_probe.specs.declared.probe_fault.ProbeFault.{ProbeFault}
use Rattle.machine_memory.specs.declared.memory_options.MemoryOptions.{MemoryOptions}
use Rattle.endings.specs.declared.failure.Failure.{Failure}
use Rattle.endings.specs.declared.status.Status.{Status}
use Rattle.requests.specs.Ending.{IsFailureOf, after_test}
use Rattle.requests.specs.declared.request_fault.RequestFault.TheVariants as request_fault
use Rattle.request_values.specs.declared.machine.MemoryTest.{MemoryTest}
use Rattle.request_values.specs.Change.{Change}
use Rattle.requests.specs.Moment.{AsksNoDisk, Moment, TakesNoInput, consoles_at}

-- which words are to be tested, and how, as the request has it
abbrev pub test_options : MemoryTest → MemoryOptions
test_options request =
    record { from = request.range.from; to = request.range.to; every = request.every; patience = request.look.patience }

-- memory was tested, over a line that was reached for it, and so the test ended
abbrev pub IsTestEnded : MemoryTest → Change ConsoleTold → MemoryEnd → Type 0
IsTestEnded request console end = IsMemoryTested OverSome (test_options request) console end

-- a test came to nothing, or its report was cut short
abbrev pub IsTestUnreported : MemoryTest → Change ConsoleTold → ProbeFault → Type 0
IsTestUnreported request console fault = IsMemoryFault OverSome (test_options request) console fault

-- memory was tested
abbrev pub IsTestOver : MemoryTest → Change ConsoleTold → Status → Type 0
IsTestOver request console status = (end : MemoryEnd) × IsTestEnded request console end × (after_test end ≡ Ok status)

-- a test came to nothing
pub record IsTestInVain (request : MemoryTest) (console : Change ConsoleTold) (failure : Failure) : Type 0 where
  pub fault : ProbeFault
  pub is_so : IsTestUnreported request console fault
  pub is_called : IsFailureOf (request_fault.Probe fault) request.look.line.now request.look.line.now failure

-- a test failed: it came to nothing, or it was reported and its line had failed
abbrev pub IsTestFailure : MemoryTest → Change ConsoleTold → Failure → Type 0
IsTestFailure request console failure =
    IsTestInVain request console failure
    ⊎ ((end : MemoryEnd) × IsTestEnded request console end × (after_test end ≡ Err failure))

-- the memory behind the console that is named was tested, and nothing else was asked or read
pub record AreWordsTested (request : MemoryTest) (moments : Change Moment) (status : Status) : Type 0 where
  pub tested : IsTestOver request (consoles_at request.look moments) status
  pub no_disk : AsksNoDisk moments
  pub no_input : TakesNoInput moments

-- or the test failed
pub record AreWordsUntested (request : MemoryTest) (moments : Change Moment) (failure : Failure) : Type 0 where
  pub failed : IsTestFailure request (consoles_at request.look moments) failure
  pub no_disk : AsksNoDisk moments
  pub no_input : TakesNoInput moments
