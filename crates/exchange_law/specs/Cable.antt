-- A line that loses nothing, at whose end the stub stands, and what comes of an exchange there.
use Rattle.std.specs.Prelude.{◌≡◌, ℕ, ◌+◌, ◌<◌, ◌≤◌, List, [], ◌∷◌, ◌++◌, length, ⊤}
use Rattle.tape_image.specs.Memory.{top_of}
use Rattle.tape_image.specs.Plan.{PlanValue}
use Rattle.odt_machine.specs.Machine.{IsWide}
use Rattle.host_core.specs.declared.heard.Heard.{Heard}
use Rattle.host_devices.specs.declared.item.Item.{Item}
use Rattle.line_world.specs.Wire.{Line}
use Rattle.honest_line.specs.Moves.{Passing}
use Rattle.exchange_core.specs.declared.chunk.Chunk.{Chunk}
use Rattle.exchange_core.specs.declared.duplex.Duplex.{Duplex}
use Rattle.exchange_core.specs.declared.exchange.Exchange.{Exchange}
use Rattle.exchange_core.specs.declared.phase.End.TheVariants.{Broken, Complete}
use Rattle.exchange_core.specs.declared.phase.Phase.{Phase}
use Rattle.exchange_core.specs.declared.phase.Phase.TheVariants.{Ended, Leave}
use Rattle.exchange_core.specs.Chunk.{AreChunks, chunk_nr}
use Rattle.exchange_core.specs.Exchange.{begun, led}
use Rattle.exchange_law.specs.Law.{Holds, dialogue, pieces_of}
use Rattle.stub.specs.Filling.{Filling, begun as stub_begun, taken}

abbrev pub Cable : Type 0
Cable = Line Filling

-- the stub takes the first character under way, and answers
pub record Takes (x y : Cable) : Type 0 where
  pub c : ℕ
  pub rest : List ℕ
  pub first : x.down ≡ c ∷ rest
  pub text : List ℕ
  pub answers : (taken x.machine c).answers ≡ x.machine.answers ++ text
  pub now : y ≡ record { machine = taken x.machine c; down = rest; up = x.up ++ text; lost = x.lost }

-- a list passes over it: nothing happens but that the stub takes characters
abbrev pub Passes : Cable → List Item → Cable → Type 0
Passes x items y = Passing Takes x items y

-- nothing is under way, and the stub begins over this memory with these chunks
abbrev pub still : List ℕ → List Chunk → Cable
still memory chunks = record { machine = stub_begun memory (pieces_of chunks); down = []; up = []; lost = 0 }

-- the exchange is not broken off, nor about to be
abbrev pub IsOnItsWay : Phase → Type 0
IsOnItsWay Leave = ⊥
IsOnItsWay (Ended Broken) = ⊥
IsOnItsWay phase = ⊤

-- it is complete, and memory has all bytes of the chunks, and is else what it was
pub record IsAllIn (plan : PlanValue) (chunks : List Chunk) (before : List ℕ) (e : Exchange) (now : List ℕ) : Type 0 where
  pub complete : e.phase ≡ Ended Complete
  pub all : e.done ≡ length chunks
  pub holds : Holds plan.image chunks before (length chunks) now

-- wherever an exchange over such a line stands it is on its way; and once it has begun, and nothing is under way any more, all is in
pub record GoesWell (plan : PlanValue) (chunks : List Chunk) (before : List ℕ) (things : List Heard) (e : Exchange) (y : Cable) : Type 0 where
  pub on_its_way : IsOnItsWay e.phase
  pub all_in : 0 < length things → y.down ≡ [] → y.up ≡ [] → IsAllIn plan chunks before e y.machine.memory

-- a line that loses nothing brings everything in, however deliveries follow one another
abbrev pub CleanLinesBringAllIn : Type 0
CleanLinesBringAllIn =
    (plan : PlanValue) (from : ℕ) (duplex : Duplex) (chunks : List Chunk) (memory : List ℕ) (things : List Heard) (y : Cable) →
    AreChunks plan from chunks → IsWide memory →
    ((k : ℕ) → k < length chunks → (chunk_nr chunks k).address + (chunk_nr chunks k).size ≤ top_of memory) →
    Passes (still memory chunks) (dialogue plan.image chunks (begun from duplex) things) y →
    GoesWell plan chunks memory things (led plan.image chunks (begun from duplex) things) y
