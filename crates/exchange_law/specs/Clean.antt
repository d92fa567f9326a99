-- An exchange of which no character is lost.
use Rattle.std.specs.Prelude.{◌≡◌, ℕ, ◌+◌, ◌*◌, ◌<◌, ◌≤◌, List, [], ◌∷◌, ◌++◌, length, map}
use Rattle.tape_image.specs.Image.{Image}
use Rattle.tape_image.specs.Memory.{top_of}
use Rattle.tape_image.specs.Plan.{PlanValue}
use Rattle.odt_machine.specs.Machine.{IsWide}
use Rattle.host_core.specs.declared.heard.Heard.{Heard}
use Rattle.host_core.specs.declared.heard.Heard.TheVariants.{Got, Quiet}
use Rattle.host_devices.specs.Dialogue.{keys_of}
use Rattle.exchange_core.specs.declared.chunk.Chunk.{Chunk}
use Rattle.exchange_core.specs.declared.duplex.Duplex.{Duplex}
use Rattle.exchange_core.specs.declared.exchange.Exchange.{Exchange}
use Rattle.exchange_core.specs.declared.phase.End.TheVariants.{Complete}
use Rattle.exchange_core.specs.declared.phase.Phase.TheVariants.{Ended}
use Rattle.exchange_core.specs.Chunk.{AreChunks, chunk_keys, chunk_nr}
use Rattle.exchange_core.specs.Exchange.{begun, led}
use Rattle.exchange_law.specs.Law.{Holds, dialogue, pieces_of}
use Rattle.stub.specs.Filling.{Filling, after, begun as stub_begun}

-- all characters of these chunks, in their order
abbrev pub all_keys : Image → List Chunk → List ℕ
all_keys image [] = []
all_keys image (chunk ∷ chunks) = chunk_keys image chunk (2 * chunk.size) ++ all_keys image chunks

-- the stub that began over this memory, with these chunks to fill, once all of these characters have come
abbrev pub stub_behind : Image → List Chunk → List ℕ → Filling
stub_behind image chunks memory = after (stub_begun memory (pieces_of chunks)) (all_keys image chunks)

-- the host hears that nothing comes, and then all that the stub answers
abbrev pub all_heard : Filling → List Heard
all_heard f = Quiet ∷ map Got f.answers

-- what comes of it
pub record IsBroughtIn (plan : PlanValue) (from : ℕ) (duplex : Duplex) (chunks : List Chunk) (memory : List ℕ) (f : Filling) (e : Exchange) : Type 0 where
  -- the host sends these characters and no others, and ends complete
  pub said : keys_of (dialogue plan.image chunks (begun from duplex) (all_heard f)) ≡ all_keys plan.image chunks
  pub complete : e.phase ≡ Ended Complete
  pub all : e.done ≡ length chunks
  -- the stub has nothing more to fill
  pub halted : f.left ≡ []
  -- memory has all bytes of the chunks, and is else what it was
  pub holds : Holds plan.image chunks memory (length chunks) f.memory

-- a line that loses nothing brings everything in
abbrev pub CleanExchangesComplete : Type 0
CleanExchangesComplete =
    (plan : PlanValue) (from : ℕ) (duplex : Duplex) (chunks : List Chunk) (memory : List ℕ) → AreChunks plan from chunks → IsWide memory →
    ((k : ℕ) → k < length chunks → (chunk_nr chunks k).address + (chunk_nr chunks k).size ≤ top_of memory) →
    IsBroughtIn plan from duplex chunks memory (stub_behind plan.image chunks memory)
    (led plan.image chunks (begun from duplex) (all_heard (stub_behind plan.image chunks memory)))
