-- The stubs of a load, one after another: each is brought in by a loading host whose plan is the stub's, and then, where that saw it start, there is the
-- exchange with it.
use Rattle.std.specs.Prelude.{◌≡◌, ℕ, ◌+◌, ◌^◌, ◌<◌, ◌≤◌, Bool, true, false, if◌then◌else◌, List, [], ◌∷◌, ◌++◌, length, IsSome, Some, None, unwrap_or, ⊤}
use Rattle.std.specs.FinMap.{get}
use Rattle.tape_image.specs.Plan.{PlanValue, IsPlan}
use Rattle.tape_image.specs.Word.{gives}
use Rattle.host_core.specs.declared.heard.Heard.{Heard}
use Rattle.host_core.specs.declared.phase.End.TheVariants.{Started}
use Rattle.host_core.specs.declared.phase.Phase.{Phase}
use Rattle.host_core.specs.declared.phase.Phase.TheVariants.{Ended}
use Rattle.host_core.specs.Core.{Core, begun_by, word_nr}
use Rattle.host_core.specs.Laws.{led}
use Rattle.line_world.specs.Safe.{FirstStand}
use Rattle.host_devices.specs.declared.item.Item.{Item}
use Rattle.host_devices.specs.Dialogue.{dialogue}
use Rattle.exchange_core.specs.declared.chunk.Chunk.{Chunk}
use Rattle.exchange_core.specs.declared.duplex.Duplex.{Duplex}
use Rattle.exchange_core.specs.Chunk.{AreChunks, chunk_nr}
use Rattle.exchange_core.specs.Exchange.{begun as exchange_begun, led as exchange_led}
use Rattle.exchange_law.specs.Law.{bytes_of, dialogue as exchange_dialogue}
use Rattle.exchange_law.specs.Station.{Program}

-- where every word of this plan stands, a stub lies at its start that fills these chunks; and no chunk ends above the plan's words, so that memory is
-- known to be there
pub record IsStubOf (program : Program) (stub : PlanValue) (chunks : List Chunk) : Type 0 where
  pub lies : (memory : List ℕ) → FirstStand stub.words (length stub.words) memory → program memory (unwrap_or stub.start 0) ≡ Some (bytes_of chunks)
  pub above : (k : ℕ) → k < length chunks →
      (i : ℕ) × (i < length stub.words) × ((chunk_nr chunks k).address + (chunk_nr chunks k).size ≤ (word_nr stub.words i).address + 2)

-- a stub for the words of a tape behind the first ones: its plan touches bytes of the tape's image alone, and none of the first words
pub record IsStubFor (program : Program) (tape : PlanValue) (from : ℕ) (stub : PlanValue) (chunks : List Chunk) : Type 0 where
  pub plan : IsPlan stub
  pub inside : (b : ℕ) → IsSome (get stub.image b) → IsSome (get tape.image b)
  pub behind : (i : ℕ) → i < from → (b : ℕ) → gives (word_nr tape.words i) b ≡ true → get stub.image b ≡ None
  pub words : AreChunks tape from chunks
  pub code : IsStubOf program stub chunks

-- a stub's part of a load: its plan and its chunks, whether the host is careful that brings it in and how many mishaps that survives, whether the host of
-- the exchange sends while answers come, and what was heard while the stub was brought in and in the exchange
pub record StubPart : Type 0 where
  pub stub : PlanValue
  pub chunks : List Chunk
  pub careful : Bool
  pub patience : ℕ
  pub duplex : Duplex
  pub brought : List Heard
  pub exchanged : List Heard

-- the host that brings in a stub, at its beginning
abbrev pub bringer : StubPart → Core
bringer part = begun_by part.careful part.stub 0 false part.patience

-- a host saw its program start
abbrev pub is_started : Phase → Bool
is_started (Ended Started) = true
is_started phase = false

-- the stub was seen to start
abbrev pub starts : StubPart → Bool
starts part = is_started (led (bringer part) part.brought).phase

-- how many words are verified behind the part, where so many were before
abbrev pub verified_after : PlanValue → ℕ → StubPart → ℕ
verified_after tape v part = if starts part then (exchange_led tape.image part.chunks (exchange_begun v part.duplex) part.exchanged).verified else v

-- what is said in its exchange
abbrev pub exchange_said : PlanValue → ℕ → StubPart → List Item
exchange_said tape v part = if starts part then exchange_dialogue tape.image part.chunks (exchange_begun v part.duplex) part.exchanged else []

-- how many words are verified behind all of them
abbrev pub verified_by : PlanValue → ℕ → List StubPart → ℕ
verified_by tape v [] = v
verified_by tape v (part ∷ more) = verified_by tape (verified_after tape v part) more

-- what is said in them
abbrev pub stubs_said : PlanValue → ℕ → List StubPart → List Item
stubs_said tape v [] = []
stubs_said tape v (part ∷ more) = dialogue (bringer part) part.brought ++ (exchange_said tape v part ++ stubs_said tape (verified_after tape v part) more)

-- each stub is one for the words that are not verified yet
abbrev pub AreStubParts : Program → PlanValue → ℕ → List StubPart → Type 0
AreStubParts program tape v [] = ⊤
AreStubParts program tape v (part ∷ more) =
    IsStubFor program tape v part.stub part.chunks × (part.patience < 2 ^ 32) × AreStubParts program tape (verified_after tape v part) more

-- no host is careful that brings in one of them
abbrev pub ArePlain : List StubPart → Type 0
ArePlain [] = ⊤
ArePlain (part ∷ more) = (part.careful ≡ false) × ArePlain more
