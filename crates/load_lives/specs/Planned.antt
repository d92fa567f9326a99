-- A stub as it is planned for a tape's words: one that a load may bring in.
use Rattle.std.specs.Prelude.{ℕ, List, length}
use Rattle.tape_image.specs.Plan.{PlanValue}
use Rattle.exchange_core.specs.declared.chunk.Chunk.{Chunk}
use Rattle.exchange_core.specs.declared.stretch.Stretch.{Stretch}
use Rattle.exchange_core.specs.Chunking.{AreChunksUpTo, AreStretches}
use Rattle.exchange_core.specs.StubPlan.{IsStubPlan, LiesBehind, place_of}
use Rattle.exchange_core.specs.Window.{IsWindow}
use Rattle.stub.specs.Words.{stub_words}
use Rattle.exchange_law.specs.Start.{program as stub_program}
use Rattle.load_lives.specs.StubParts.{IsStubFor}

-- what the planning of a stub promises: the window behind the words that are verified, the chunks of the words before it, the stretches that make these
-- chunks, and a plan that has the stub with these stretches at the window
pub record IsPlanned (tape : PlanValue) (from window : ℕ) (chunks : List Chunk) (stretches : List Stretch) (stub : PlanValue) : Type 0 where
  pub window_is : IsWindow tape.words from (length (stub_words (place_of tape window) stretches)) window
  pub chunks_are : AreChunksUpTo tape from window chunks
  pub stretches_are : AreStretches chunks stretches
  pub stub_is : IsStubPlan tape from window (stub_words (place_of tape window) stretches) stub
  pub behind : LiesBehind tape from stub

-- so planned it is a stub for the words behind the first ones: where its words stand in a memory, it stands there, and is to fill these chunks
abbrev pub PlannedStubsAreStubs : Type 0
PlannedStubsAreStubs =
    (tape : PlanValue) (from window : ℕ) (chunks : List Chunk) (stretches : List Stretch) (stub : PlanValue) →
    IsPlanned tape from window chunks stretches stub → IsStubFor stub_program tape from stub chunks
