-- The hosts of a test of memory, one after another, each with what was said (this project's own).
use Rattle.std.specs.Prelude.{◌≡◌, ◌⊎◌, ℕ, zero, suc, List, [], ◌∷◌, ◌++◌, Some}
use Rattle.host_devices.specs.declared.item.Item.{Item}
use Rattle.engine.specs.declared.stop.Stop.{Stop}
use Rattle.engine.specs.Stopping.{TellsEnd}
use Rattle.memory_core.specs.declared.phase.End.{End}
use Rattle.memory_core.specs.Addresses.{every_address}
use Rattle.memory_core.specs.Tester.{Tester, begun, ended}
use Rattle.memory_engine.specs.Tested.{NoKeepFault, Tested, testing}
use Rattle.probe_report.specs.declared.findings.Findings.{Findings}
use Rattle.machine_probe.specs.Follow.{IsTriedOut, IsUntried}
use Rattle.machine_memory.specs.declared.course.Place.{Place}
use Rattle.machine_memory.specs.declared.course.Place.TheVariants.{Trying, Testing, Marking, Looking, PuttingBack, LookingAgain, Over}
use Rattle.machine_memory.specs.declared.memory_options.MemoryOptions.{MemoryOptions}
use Rattle.looking_engine.specs.Stopping.{LookStop}
use Rattle.reading_core.specs.Reader.{Reader}
use Rattle.memory_core.specs.declared.stage.Borrowed.{Borrowed}
use Rattle.machine_memory.specs.BusCourse.{then_bus}
use Rattle.machine_memory.specs.BusRuns.{IsLookAgainStep, IsLookLed, IsLookStep, IsMarkStep, IsNamedStep, IsPutBackStep, IsRestored}
use Rattle.machine_memory.specs.Course.{Standing, behind_test, behind_trial}
use Rattle.machine_memory.specs.Options.{probe_options}
use Rattle.machine_memory.specs.Turns.{most_turns}

-- the console was tried at a word, as `probe` does
pub record IsTryStep (options : MemoryOptions) (at : ℕ) (before after : Standing) (parts : List (List Item)) : Type 0 where
  pub f : Findings
  pub tried : IsTriedOut (probe_options options at) f parts
  pub after_is : after ≡ behind_trial options.to before f

-- a testing host was led over the words from one on, and stopped
pub record IsTestLed (options : MemoryOptions) (at : ℕ) (last : Tester) (stop : Stop End) (parts : List (List Item)) : Type 0 where
  pub said : List Item
  pub part : parts ≡ said ∷ []
  pub tested : Tested most_turns (testing (begun (every_address at options.to options.every) options.patience) last (Some stop)) (Some []) (Some said)
  pub end : TellsEnd stop (ended last.phase)
  pub no_fault : NoKeepFault stop

-- so the words were tested
pub record IsTestStep (options : MemoryOptions) (at : ℕ) (before after : Standing) (parts : List (List Item)) : Type 0 where
  pub last : Tester
  pub stop : Stop End
  pub test_led : IsTestLed options at last stop parts
  pub after_is : after ≡ then_bus options.every (behind_test options.to before last stop)

-- what comes next was done, or, where memory was wanting for it, the word got its old number again, which may not stand: where nothing comes next, nothing
-- was said
abbrev pub IsStepAt : MemoryOptions → Place → Standing → Standing → List (List Item) → Type 0
IsStepAt options (Trying at) before after parts = IsTryStep options at before after parts
IsStepAt options (Testing at) before after parts = IsTestStep options at before after parts
IsStepAt options (Marking word place) before after parts =
    IsMarkStep options word place before after parts ⊎ IsNamedStep options word before after parts
IsStepAt options (Looking word first) before after parts =
    IsLookStep options word first before after parts ⊎ IsNamedStep options word before after parts
IsStepAt options (PuttingBack word) before after parts = IsPutBackStep options word before after parts
IsStepAt options (LookingAgain word first) before after parts = IsLookAgainStep options word first before after parts
IsStepAt options (Over end) before after parts = (after ≡ before) × (parts ≡ [])

abbrev pub IsStep : MemoryOptions → Standing → Standing → List (List Item) → Type 0
IsStep options before after parts = IsStepAt options before.place before after parts

-- so many steps
abbrev pub AreSteps : ℕ → MemoryOptions → Standing → Standing → List (List Item) → Type 0
AreSteps zero options first last parts = (last ≡ first) × (parts ≡ [])
AreSteps (suc n) options first last parts =
    (between : Standing) × (front more : List (List Item)) × AreSteps n options first between front × IsStep options between last more × (parts ≡ front ++ more)

-- more steps than a test has: in each of the seven banks the console is tried or words are tested, and once more where the console forgets; five
-- numbers are deposited, and behind each of fifteen words nothing may answer, twice
abbrev pub most_steps : ℕ
most_steps = 64

-- all steps, one after another: behind the end nothing is said
abbrev pub IsRow : MemoryOptions → Standing → Standing → List (List Item) → Type 0
IsRow options first last parts = AreSteps most_steps options first last parts

-- a second look at the words around one that want of memory cut off
abbrev pub IsCutLook : MemoryOptions → Borrowed → ℕ → List (List Item) → Type 0
IsCutLook options word first parts = (parts ≡ []) ⊎ ((last : Reader) × (stop : LookStop) × IsLookLed options word.address first last stop parts)

-- a step that want of memory cut off: before a host was led, or behind it. A word that was lent has its old number again
abbrev pub IsCutStep : MemoryOptions → Place → List (List Item) → Type 0
IsCutStep options (Trying at) parts = IsUntried (probe_options options at) parts ⊎ ((f : Findings) × IsTriedOut (probe_options options at) f parts)
IsCutStep options (Testing at) parts = (parts ≡ []) ⊎ ((last : Tester) × (stop : Stop End) × IsTestLed options at last stop parts)
IsCutStep options (Marking word place) parts = IsRestored options word parts
IsCutStep options (Looking word first) parts = IsRestored options word parts
IsCutStep options (PuttingBack word) parts = ⊥
IsCutStep options (LookingAgain word first) parts = IsCutLook options word first parts
IsCutStep options (Over end) parts = parts ≡ []

-- steps, of which the last was cut off
pub record IsCut (options : MemoryOptions) (first : Standing) (parts : List (List Item)) : Type 0 where
  pub count : ℕ
  pub between : Standing
  pub front : List (List Item)
  pub more : List (List Item)
  pub steps : AreSteps count options first between front
  pub cut : IsCutStep options between.place more
  pub parts_are : parts ≡ front ++ more
