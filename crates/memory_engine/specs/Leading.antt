-- The testing host, as the one engine leads it.
use Rattle.std.specs.Prelude.{Option, Some, None, option_to_list}
use Rattle.engine.specs.Ways.{Ways}
use Rattle.memory_core.specs.declared.phase.End.{End}
use Rattle.memory_core.specs.declared.stage.Borrowed.{Borrowed}
use Rattle.memory_core.specs.MemoryTable.{ask}
use Rattle.memory_core.specs.Tester.{Tester, borrowed, ended}
use Rattle.memory_engine.specs.declared.testing.Testing.{Testing}

abbrev pub a_test : Tester → Testing
a_test t = record { core = t }

-- the word that is borrowed now and was not before
abbrev pub newly_borrowed : (before now : Option Borrowed) → Option Borrowed
newly_borrowed None now = now
newly_borrowed (Some word) now = None

-- a tester gives each word to be kept that may hold another number from now on
abbrev pub tests : Ways Testing End Borrowed
tests = record {
  step = λ t heard. a_test (ask t.core heard).next;
  keys = λ t heard. option_to_list (ask t.core heard).key;
  news = λ t heard. option_to_list (newly_borrowed (borrowed t.core) (borrowed (ask t.core heard).next));
  ended = λ t. ended t.core.phase;
}
