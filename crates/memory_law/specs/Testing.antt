-- What may be believed of a host that tested memory over an honest line. Memory is good there: it holds what it is given.
use Rattle.std.specs.Prelude.{◌≡◌, ℕ, ◌+◌, ◌<◌, ◌≤◌, true, false, List, [], ◌∷◌, ◌++◌, length, get_or, Option, Some, None, ⊤}
use Rattle.tape_image.specs.Memory.{top_of}
use Rattle.odt_machine.specs.Machine.{Machine, IsMachine, is_word, word_at, stored}
use Rattle.odt_machine.specs.Laws.{is_running}
use Rattle.host_core.specs.declared.heard.Heard.{Heard}
use Rattle.host_devices.specs.declared.item.Item.{Item}
use Rattle.host_devices.specs.declared.item.Item.TheVariants.{Sent, Heard as Came}
use Rattle.host_devices.specs.Dialogue.{said}
use Rattle.honest_line.specs.Honest.{IsHonest}
use Rattle.looking_law.specs.Belief.{IsReadyMachine}
use Rattle.looking_law.specs.Parts.{LeavesReady}
use Rattle.looking_law.specs.Trying.{IsToldOf}
use Rattle.memory_core.specs.declared.phase.Phase.{Phase}
use Rattle.memory_core.specs.declared.phase.Phase.TheVariants.{Ended}
use Rattle.memory_core.specs.declared.phase.End.{End}
use Rattle.memory_core.specs.declared.phase.End.TheVariants.{GaveUp, NoWord}
use Rattle.memory_core.specs.declared.seen.Readings.{Readings}
use Rattle.memory_core.specs.declared.seen.Seen.{Seen}
use Rattle.memory_core.specs.declared.seen.Seen.TheVariants.{Tested}
use Rattle.memory_core.specs.declared.stage.Borrowed.{Borrowed}
use Rattle.memory_core.specs.Invariant.{IsTester}
use Rattle.memory_core.specs.Laws.{led}
use Rattle.memory_core.specs.MemoryTable.{ask}
use Rattle.memory_core.specs.Seen.{HeldBoth}
use Rattle.memory_core.specs.Tester.{Tester, begun, borrowed}

-- each heard thing, and right after it the key that it makes the host send
abbrev pub dialogue : Tester → List Heard → List Item
dialogue t [] = []
dialogue t (heard ∷ more) = Came heard ∷ (said (ask t heard).key ++ dialogue (ask t heard).next more)

-- a test may begin over this machine: the host is at the beginning of its life, and no program runs
pub record MayTest (t : Tester) (machine : Machine) : Type 0 where
  pub begun : t ≡ begun t.addresses t.patience
  pub console : IsMachine machine
  pub stopped : is_running machine.mode ≡ false

-- memory is what it was, but for a word that is borrowed, if one is: in its place may stand another number, and what it held is known
abbrev pub IsAsItWas : List ℕ → Option Borrowed → List ℕ → Type 0
IsAsItWas before None now = now ≡ before
IsAsItWas before (Some word) now =
    (is_word before word.address ≡ true) × (word.old ≡ word_at before word.address) × (number : ℕ) × (now ≡ stored before word.address number)

-- memory has a word at the address, it was tested and held what it was given, and what it is said to have held is what memory holds there
pub record IsTrueOf (memory : List ℕ) (address : ℕ) (word : Seen) : Type 0 where
  pub lies : is_word memory address ≡ true
  pub readings : Readings
  pub tested : word ≡ Tested readings
  pub old : readings.old ≡ word_at memory address
  pub held : HeldBoth readings

-- an end has its cause: it gives up after more losses than the patience, and finds no word past the memory alone
abbrev pub EndIsPaid : End → List ℕ → (patience lost : ℕ) → Type 0
EndIsPaid GaveUp memory patience lost = patience < lost
EndIsPaid (NoWord a) memory patience lost = top_of memory ≤ a
EndIsPaid end memory patience lost = ⊤

-- a phase has its cause, where it is an end
abbrev pub HasCause : Phase → List ℕ → (patience lost : ℕ) → Type 0
HasCause (Ended end) memory patience lost = EndIsPaid end memory patience lost
HasCause phase memory patience lost = ⊤

-- what came of it: memory is as it was, what was read of each word that counts as tested is true, and no mishap and no end is
-- without its losses
pub record IsTrueTest (before : List ℕ) (t : Tester) (now : List ℕ) (lost : ℕ) : Type 0 where
  pub memory : IsAsItWas before (borrowed t) now
  pub words : (i : ℕ) (other : Seen) → i < length t.seen → IsTrueOf before (get_or t.addresses i 0) (get_or t.seen i other)
  pub spent : t.spent ≤ lost
  pub cause : HasCause t.phase before t.patience lost

-- a host that went from one tester to another while these items were sent and heard may be believed over every machine and
-- honest line, and so many losses more than the line had pay for its mishaps
abbrev pub IsBelievable : Tester → Tester → List Item → ℕ → Type 0
IsBelievable old new items more =
    (machine machine' : Machine) (lost : ℕ) → MayTest old machine → IsHonest machine items lost machine' →
    IsTrueTest machine.memory new machine'.memory (lost + more)

-- a testing host that heard an honest line may be believed
abbrev pub TestsAreTrue : Type 0
TestsAreTrue = (t : Tester) (things : List Heard) → IsTester t → IsBelievable t (led t things) (dialogue t things) 0

-- one whose last key was never sent may be believed as one over a line that lost this key
abbrev pub UnsaidTestsAreTrue : Type 0
UnsaidTestsAreTrue =
    (t : Tester) (things : List Heard) (items : List Item) (key : ℕ) → IsTester t → dialogue t things ≡ items ++ Sent key ∷ [] →
    IsBelievable t (led t things) items 1

-- behind a test that heard an honest line the next host may begin
abbrev pub TestsLeaveItReady : Type 0
TestsLeaveItReady =
    (t : Tester) (things : List Heard) (machine machine' : Machine) (lost : ℕ) → IsTester t → MayTest t machine →
    IsHonest machine (dialogue t things) lost machine' → IsReadyMachine machine'

-- a test begins by listening, ends tidily and leaves the machine ready, also where its last key was not said: so it may stand among looks and
-- trials on one line (OneLineIsARow)
abbrev pub TestsMayStandInARow : Type 0
TestsMayStandInARow =
    (t : Tester) (things : List Heard) (told : List Item) → IsTester t → t ≡ begun t.addresses t.patience → IsToldOf (dialogue t things) told → LeavesReady told
