-- What may be believed of a test of memory. Memory is good there: it holds what it is given.
use Rattle.std.specs.Prelude.{◌≡◌, ◌⊎◌, ℕ, false, All, List, [], ◌∷◌, Option, Some, None}
use Rattle.odt_machine.specs.Machine.{Machine, word_at, stored}
use Rattle.host_devices.specs.declared.item.Item.{Item}
use Rattle.looking_law.specs.Belief.{IsReadyMachine}
use Rattle.honest_line.specs.Honest.{IsHonest}
use Rattle.looking_law.specs.Rows.{AreHonest, in_a_row}
use Rattle.memory_core.specs.declared.stage.Borrowed.{Borrowed}
use Rattle.memory_law.specs.Testing.{IsTrueOf}
use Rattle.memory_report.specs.declared.findings.Word.{Word}
use Rattle.memory_report.specs.Bus.{same_words}
use Rattle.machine_memory.specs.Course.{Standing}

-- memory is what it was, but for the word that is named, if one is: what it held is what is said, and any number may stand there now
abbrev pub Remains : List ℕ → Option Borrowed → List ℕ → Type 0
Remains before None now = now ≡ before
Remains before (Some word) now = (word.old ≡ word_at before word.address) × ((now ≡ before) ⊎ ((number : ℕ) × (now ≡ stored before word.address number)))

-- and each word that counts as tested is there, held both numbers, and what it is said to have held is what memory held; no data lines are said to
-- touch, and no two addresses to be one word
pub record IsRight (before : List ℕ) (s : Standing) (now : List ℕ) : Type 0 where
  pub memory : Remains before s.borrowed now
  pub words : All (λ (word : Word). IsTrueOf before word.address word.seen) s.words
  pub touches : s.bus.touches ≡ false
  pub same : same_words s.bus ≡ []

-- over every machine that runs no program, and honest lines in a row, a line for each host
abbrev pub AreBelievable : Standing → List (List Item) → Type 0
AreBelievable s parts =
    (machine machine' : Machine) (lost : ℕ) → IsReadyMachine machine → AreHonest machine parts lost machine' → IsRight machine.memory s machine'.memory

-- the same over one honest line on which all of it was said, one host after another, where anything was said
abbrev pub AreBelievableOver : Standing → List (List Item) → Type 0
AreBelievableOver s parts =
    (machine machine' : Machine) (lost : ℕ) (said : List Item) (more : List (List Item)) → parts ≡ said ∷ more → IsReadyMachine machine →
    IsHonest machine (in_a_row parts) lost machine' → IsRight machine.memory s machine'.memory
