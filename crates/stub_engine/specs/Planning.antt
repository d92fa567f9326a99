-- The stub that is planned next.
use Rattle.std.specs.Prelude.{ℕ, ◌+◌, ◌*◌, ◌<◌, ◌≤◌, ⊤, List, length}
use Rattle.tape_image.specs.Plan.{PlanValue}
use Rattle.exchange_core.specs.declared.chunk.Chunk.{Chunk}
use Rattle.exchange_core.specs.declared.stretch.Stretch.{Stretch}
use Rattle.exchange_core.specs.Chunking.{AreChunksUpTo, AreStretches}
use Rattle.exchange_core.specs.Window.{IsWindow}
use Rattle.load_lives.specs.Planned.{IsPlanned}
use Rattle.stub_engine.specs.declared.planning.StubLayout.{StubLayout}
use Rattle.stub_engine.specs.declared.stop.StubsEnd.{StubsEnd}
use Rattle.stub_engine.specs.declared.stop.StubsEnd.TheVariants.{TooFewWords, NoRoom, Memory}

-- a stub is worth its time where it may gain so many words
abbrev pub least_gain : ℕ
least_gain = 256

-- a window behind the first words with room for a stub of so many stretches, the chunks of the words between, and the stretches that make these
pub record IsLayout (tape : PlanValue) (from count : ℕ) (layout : StubLayout) : Type 0 where
  pub window_is : IsWindow tape.words from (64 + 2 * count) layout.window
  pub worth : from + least_gain ≤ layout.window
  pub chunks_are : AreChunksUpTo tape from layout.window layout.chunks.items
  pub stretches_are : AreStretches layout.chunks.items layout.stretches.items

-- a stub that is planned for the words behind the first ones, and is worth its time
pub record IsPlannedFor (tape : PlanValue) (from : ℕ) (stub : PlanValue) (chunks : List Chunk) : Type 0 where
  pub window : ℕ
  pub stretches : List Stretch
  pub planned : IsPlanned tape from window chunks stretches stub
  pub worth : from + least_gain ≤ window

-- with how many stretches room is looked for: with one, and then with as many as there were
pub data IsTried (tape : PlanValue) (from : ℕ) : ℕ → Type 0 where
  One : IsTried tape from 1
  More : (layout : StubLayout) → IsLayout tape from 1 layout → IsTried tape from (length layout.stretches.items)

-- each window for a stub of so many stretches leaves too few words before it
abbrev pub LeavesTooFew : PlanValue → ℕ → ℕ → Type 0
LeavesTooFew tape from count = (i : ℕ) → IsWindow tape.words from (64 + 2 * count) i → i < from + least_gain

-- there is no window for one, or the chunks before it make more stretches than it has room for
pub data HasNoRoom (tape : PlanValue) (from count : ℕ) : Type 0 where
  NoWindow : ((i : ℕ) → IsWindow tape.words from (64 + 2 * count) i → ⊥) → HasNoRoom tape from count
  MoreStretches : (layout : StubLayout) → IsLayout tape from count layout → count < length layout.stretches.items → HasNoRoom tape from count

-- why none is laid out that has so many stretches
abbrev pub IsNotLaidOut : PlanValue → ℕ → ℕ → StubsEnd → Type 0
IsNotLaidOut tape from count TooFewWords = LeavesTooFew tape from count
IsNotLaidOut tape from count NoRoom = HasNoRoom tape from count
IsNotLaidOut tape from count Memory = ⊤
IsNotLaidOut tape from count _ = ⊥

-- why none is planned
abbrev pub IsUnplanned : PlanValue → ℕ → StubsEnd → Type 0
IsUnplanned tape from end = (count : ℕ) × IsTried tape from count × IsNotLaidOut tape from count end
