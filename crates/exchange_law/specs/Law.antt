-- What an exchange with a stub says, and what may be trusted of it.
use Rattle.std.specs.Prelude.{◌≡◌, ℕ, ◌+◌, ◌<◌, ◌≤◌, true, false, List, [], ◌∷◌, ◌++◌, length, map, drop, Some, None}
use Rattle.std.specs.FinMap.{get}
use Rattle.tape_image.specs.Image.{Image}
use Rattle.tape_image.specs.Memory.{byte_of, top_of}
use Rattle.tape_image.specs.Plan.{PlanValue}
use Rattle.odt_machine.specs.Laws.{is_running}
use Rattle.odt_machine.specs.Machine.{IsMachine}
use Rattle.odt_machine.specs.declared.mode.Mode.TheVariants.{Prompt}
use Rattle.host_core.specs.declared.heard.Heard.{Heard}
use Rattle.line_world.specs.Safe.{FirstStand}
use Rattle.host_devices.specs.declared.item.Item.{Item}
use Rattle.host_devices.specs.declared.item.Item.TheVariants.{Heard as Came, Sent}
use Rattle.exchange_core.specs.declared.chunk.Chunk.{Chunk}
use Rattle.exchange_core.specs.declared.duplex.Duplex.{Duplex}
use Rattle.exchange_core.specs.declared.exchange.Exchange.{Exchange}
use Rattle.exchange_core.specs.declared.phase.End.TheVariants.{Complete}
use Rattle.exchange_core.specs.declared.phase.Phase.TheVariants.{Ended}
use Rattle.exchange_core.specs.declared.stretch.Stretch.{Stretch}
use Rattle.exchange_core.specs.Chunk.{AreChunks, IsIn, chunk_nr}
use Rattle.exchange_core.specs.Exchange.{IsExchange, advance, begun, led}
use Rattle.exchange_core.specs.Stretch.{places, stretch_of}
use Rattle.exchange_law.specs.Line.{Link, Passes}
use Rattle.exchange_law.specs.Station.{Program}
use Rattle.exchange_law.specs.Unsettled.{IsAmong, IsUnsettled}

-- these characters are sent
abbrev pub said_all : List ℕ → List Item
said_all [] = []
said_all (key ∷ keys) = Sent key ∷ said_all keys

-- each heard thing, and right behind it the characters that it makes the host send
abbrev pub dialogue : Image → List Chunk → Exchange → List Heard → List Item
dialogue image chunks e [] = []
dialogue image chunks e (heard ∷ more) =
    Came heard ∷ (said_all (advance image chunks e heard).keys ++ dialogue image chunks (advance image chunks e heard).next more)

-- the bytes of these chunks
abbrev pub pieces_of : List Chunk → List Stretch
pieces_of chunks = map stretch_of chunks

-- their addresses, in their order
abbrev pub bytes_of : List Chunk → List ℕ
bytes_of chunks = places (pieces_of chunks)

-- an exchange may begin over this line: nothing is under way, and a stub runs that has taken nothing yet and is to fill these chunks, all of which lie
-- in memory
pub record MayExchange (chunks : List Chunk) (x : Link) : Type 0 where
  pub none_down : x.down ≡ []
  pub silent : x.up ≡ []
  pub console : IsMachine x.machine.odt
  pub runs : is_running x.machine.odt.mode ≡ true
  pub stub : x.machine.stub ≡ Some (record { left = bytes_of chunks; half = false })
  pub room : (k : ℕ) → k < length chunks → (chunk_nr chunks k).address + (chunk_nr chunks k).size ≤ top_of x.machine.odt.memory

-- the first chunks, so many, stand in memory, and outside of all chunks it is what it was
pub record Holds (image : Image) (chunks : List Chunk) (before : List ℕ) (done : ℕ) (now : List ℕ) : Type 0 where
  pub size : length now ≡ length before
  pub stand : (k : ℕ) → k < done → (b : ℕ) → IsIn (chunk_nr chunks k) b → get image b ≡ Some (byte_of now b)
  pub others : (b : ℕ) → ((k : ℕ) → k < length chunks → IsIn (chunk_nr chunks k) b → ⊥) → byte_of now b ≡ byte_of before b

-- ODT is at its prompt, no stub runs, and no key is under way
pub record IsBack (x : Link) : Type 0 where
  pub no_stub : x.machine.stub ≡ None
  pub prompt : x.machine.odt.mode ≡ Prompt
  pub none_down : x.down ≡ []

-- what came of an exchange over a memory
pub record IsExchanged (program : Program) (plan : PlanValue) (chunks : List Chunk) (before : List ℕ) (e : Exchange) (y : Link) : Type 0 where
  -- its phase and its counts fit
  pub is : IsExchange chunks e
  -- the chunks that are done stand, and nothing changed outside of all chunks
  pub holds : Holds plan.image chunks before e.done y.machine.odt.memory
  -- where the words before it stood, each word that counts as verified stands
  pub words : FirstStand plan.words e.from before → FirstStand plan.words e.verified y.machine.odt.memory
  -- a complete one leads back to ODT
  pub back : e.phase ≡ Ended Complete → IsBack y
  -- from now on only bytes of the chunks that are not done may change
  pub left : IsUnsettled program (IsAmong (pieces_of (drop e.done chunks))) y

-- an exchange over a line: its plan, how many words were verified before it, whether it sends while answers come, its chunks; what was heard, what was
-- said on the line, and what the host was about to send where it was stopped
pub record Exchanging : Type 0 where
  pub plan : PlanValue
  pub from : ℕ
  pub duplex : Duplex
  pub chunks : List Chunk
  pub heard : List Heard
  pub items : List Item
  pub unsent : List ℕ

-- the exchange that it became
abbrev pub exchange_of : Exchanging → Exchange
exchange_of o = led o.plan.image o.chunks (begun o.from o.duplex) o.heard

-- it is one, from the line that it finds to the line that it leaves
pub record IsExchanging (program : Program) (x : Link) (o : Exchanging) (y : Link) : Type 0 where
  pub chunks : AreChunks o.plan o.from o.chunks
  pub begins : MayExchange o.chunks x
  -- the host says what the exchange decides, and may be stopped before any character
  pub stopped : dialogue o.plan.image o.chunks (begun o.from o.duplex) o.heard ≡ o.items ++ said_all o.unsent
  -- the line delivers and loses as a line may
  pub passes : Passes program x o.items y

-- exchanges may be trusted: over every line that keeps order, whatever it loses, and wherever the host stops
abbrev pub ExchangesAreTrue : Type 0
ExchangesAreTrue =
    (program : Program) (x y : Link) (o : Exchanging) → IsExchanging program x o y →
    IsExchanged program o.plan o.chunks x.machine.odt.memory (exchange_of o) y
