-- All that the engine promises of turns of a tester.
use Rattle.std.specs.Prelude.{◌≡◌, ℕ, ◌≤◌, length, List, Option, None, IfSome, ⊤}
use Rattle.host_devices.specs.declared.item.Item.{Item}
use Rattle.host_devices.specs.Devices.{LineTold}
use Rattle.host_devices.specs.Failures.{CountsFault, IsLastFault}
use Rattle.engine.specs.Session.{Session, Turns, session_told, turns_of}
use Rattle.engine.specs.Stopping.{TellsEnd, line_fault}
use Rattle.engine.specs.declared.stop.Stop.{Stop}
use Rattle.engine.specs.declared.stop.Stop.TheVariants.{KeepFailed}
use Rattle.memory_core.specs.declared.phase.End.{End}
use Rattle.memory_core.specs.Bound.{testing_bound}
use Rattle.memory_core.specs.Invariant.{IsTester}
use Rattle.memory_core.specs.Tester.{Tester, ended}
use Rattle.memory_engine.specs.Belief.{IsBelievableOver}
use Rattle.memory_engine.specs.Leading.{a_test, tests}

-- turns of a tester
abbrev pub testing : Tester → Tester → Option (Stop End) → Turns tests
testing old new stop = turns_of tests (a_test old) (a_test new) stop

-- at most so many turns of a tester: what was heard and what was said
abbrev pub Tested : ℕ → Turns tests → Option (List Item) → Option (List Item) → Type 0
Tested most turns line line' = Session most turns (session_told line None) (session_told line' None)

-- nothing failed to be kept
abbrev pub NoKeepFault : Stop End → Type 0
NoKeepFault (KeepFailed fault) = ⊥
NoKeepFault stop = ⊤

-- what the engine makes of a tester and of a line, in at most so many turns
pub record IsTestMade (most : ℕ) (turns : Turns tests) (before after : LineTold) : Type 0 where
  pub session : Tested most turns before.said after.said
  pub end : IfSome turns.stop (λ stop. TellsEnd stop (ended turns.new.core.phase))
  pub counted : CountsFault (line_fault turns.stop) before.failures after.failures
  pub named : IsLastFault (line_fault turns.stop) after.fault
  -- what may be believed where the line was honest
  pub honest : IsBelievableOver turns before.said after.said
  -- it is a tester of the same words, which has sent no more than such a tester may
  pub same_addresses : turns.new.core.addresses ≡ turns.old.core.addresses
  pub same_patience : turns.new.core.patience ≡ turns.old.core.patience
  pub bound : turns.new.core.sent ≤ testing_bound (length turns.new.core.addresses) turns.new.core.patience
  pub kept : IsTester turns.new.core
