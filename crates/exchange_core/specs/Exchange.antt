-- A host that exchanges bytes with a stub as one value, and its table: what it does on what it hears (this project's choice). It waits for silence,
-- sends the first characters of a chunk, and more of them as the answer comes; behind its last character comes the next chunk. At anything else it
-- leaves.
--
-- A chunk counts once its whole answer came, and nothing of the next is sent before. The stub answers a byte's two characters behind two that it took:
-- so as many answers as characters were sent say that each of these was taken and no answer lost, and then each answer is of its own byte. Neither may a
-- byte count by its own two answers, nor a chunk by its own where characters of the next were sent already: if the first character of 0 0 1 0 0 0 is
-- lost, the stub takes 0 1 0 0 into the first two bytes and answers these; with two of its answers lost the host hears 0 0, which is right for the first
-- byte, and memory has 0 1 there.
use Rattle.std.specs.Prelude.{◌≡◌, ℕ, ◌+◌, ◌-◌, ◌*◌, ◌<◌, ◌≤◌, ◌==◌, nat_lt, if◌then◌else◌, List, [], ◌∷◌, length, Option, Some, None}
use Rattle.tape_image.specs.Image.{Image}
use Rattle.host_core.specs.Console.{resynchronise}
use Rattle.host_core.specs.declared.heard.Heard.{Heard}
use Rattle.host_core.specs.declared.heard.Heard.TheVariants.{Got, Quiet}
use Rattle.exchange_core.specs.declared.chunk.Chunk.{Chunk}
use Rattle.exchange_core.specs.declared.duplex.Duplex.{Duplex}
use Rattle.exchange_core.specs.declared.exchange.Exchange.{Exchange}
use Rattle.exchange_core.specs.declared.phase.Phase.{Phase}
use Rattle.exchange_core.specs.declared.phase.Phase.TheVariants.{Settle, Answer, Leave, Ended}
use Rattle.exchange_core.specs.declared.phase.End.{End}
use Rattle.exchange_core.specs.declared.phase.End.TheVariants.{Complete, Broken}
use Rattle.exchange_core.specs.declared.turn.Turn.{Turn}
use Rattle.exchange_core.specs.declared.turn.Turn.TheVariants.{Listen, More, Next, Verified, Stop}
use Rattle.exchange_core.specs.Chunk.{answer_at, chunk_keys, chunk_nr, keys_from, sent_at, words_behind}

-- an exchange at its beginning, where so many words are verified already
abbrev pub begun : ℕ → Duplex → Exchange
begun from duplex = record { from = from; duplex = duplex; done = 0; verified = from; sent = 0; phase = Settle }

-- the end, where it has ended
abbrev pub ended : Phase → Option End
ended (Ended end) = Some end
ended _ = None

-- Answer: each character is the one that is awaited; behind the last one the chunk is verified
abbrev pub answer_hears : Image → Chunk → ℕ → ℕ → Turn
answer_hears image chunk place c =
    if c == answer_at image chunk place then (if nat_lt (place + 1) (2 * chunk.size) then More place else Verified)
    else Listen Leave

-- a character is heard, where `chunk` is under way
abbrev pub hears : Image → Chunk → Phase → ℕ → Turn
hears image chunk Settle c = Listen Leave
hears image chunk (Answer place) c = answer_hears image chunk place c
hears image chunk Leave c = Listen Leave
hears image chunk (Ended end) c = Listen (Ended end)

-- nothing is heard for the quiet time
abbrev pub waits : Phase → Turn
waits Settle = Next
waits (Answer place) = Stop
waits Leave = Stop
waits (Ended end) = Listen (Ended end)

-- an exchange after a step, and the characters that it sends
pub record ExchangeStep : Type 0 where
  pub next : Exchange
  pub keys : List ℕ

-- it goes on in a phase, nothing is sent
abbrev pub listens : Exchange → Phase → ExchangeStep
listens e phase = record { next = record e { phase = phase }; keys = [] }

-- the character at a place of the answer was heard: of the chunk those are sent that may be sent now
abbrev pub sends_on : Image → Chunk → Exchange → ℕ → ExchangeStep
sends_on image chunk e place = record {
  next = record e { sent = e.sent + (sent_at e.duplex chunk (place + 1) - sent_at e.duplex chunk place); phase = Answer (place + 1) };
  keys = keys_from image chunk (sent_at e.duplex chunk place) (sent_at e.duplex chunk (place + 1) - sent_at e.duplex chunk place);
}

-- the first characters of the next chunk are sent, or there is none and the exchange is complete
abbrev pub next_chunk : Image → List Chunk → Exchange → ExchangeStep
next_chunk image chunks e =
    if nat_lt e.done (length chunks)
    then record {
      next = record e { sent = e.sent + sent_at e.duplex (chunk_nr chunks e.done) 0; phase = Answer 0 };
      keys = chunk_keys image (chunk_nr chunks e.done) (sent_at e.duplex (chunk_nr chunks e.done) 0);
    }
    else listens e (Ended Complete)

-- the chunk under way is verified
abbrev pub with_chunk : List Chunk → Exchange → Exchange
with_chunk chunks e = record e { done = e.done + 1; verified = (chunk_nr chunks e.done).until }

-- what a turn of the table does
abbrev pub taken : Image → List Chunk → Exchange → Turn → ExchangeStep
taken image chunks e (Listen phase) = listens e phase
taken image chunks e (More place) = sends_on image (chunk_nr chunks e.done) e place
taken image chunks e Next = next_chunk image chunks e
taken image chunks e Verified = next_chunk image chunks (with_chunk chunks e)
taken image chunks e Stop = record { next = record e { sent = e.sent + 1; phase = Ended Broken }; keys = resynchronise ∷ [] }

-- the turn that the table gives
abbrev pub turn_of : Image → List Chunk → Exchange → Heard → Turn
turn_of image chunks e (Got c) = hears image (chunk_nr chunks e.done) e.phase c
turn_of image chunks e Quiet = waits e.phase

-- one step of the exchange
abbrev pub advance : Image → List Chunk → Exchange → Heard → ExchangeStep
advance image chunks e heard = taken image chunks e (turn_of image chunks e heard)

-- the exchange that a list of heard things makes
abbrev pub led : Image → List Chunk → Exchange → List Heard → Exchange
led image chunks e [] = e
led image chunks e (heard ∷ more) = led image chunks (advance image chunks e heard).next more

-- what a phase says
abbrev pub PhaseFits : List Chunk → ℕ → Phase → Type 0
PhaseFits chunks done Settle = done ≡ 0
PhaseFits chunks done (Answer place) = (done < length chunks) × (place < 2 * (chunk_nr chunks done).size)
PhaseFits chunks done Leave = done < length chunks
PhaseFits chunks done (Ended Complete) = done ≡ length chunks
PhaseFits chunks done (Ended Broken) = done < length chunks

-- the most that was sent behind the chunks that are done: characters of one more, and `Z`
abbrev pub used_in : Duplex → Chunk → Phase → ℕ
used_in duplex chunk Settle = 0
used_in duplex chunk (Answer place) = sent_at duplex chunk place
used_in duplex chunk Leave = 128
used_in duplex chunk (Ended Complete) = 0
used_in duplex chunk (Ended Broken) = 129

-- every exchange is so: no more chunks are done than there are, the words behind them are verified,
-- its phase fits, and what was sent is accounted for
pub record IsExchange (chunks : List Chunk) (e : Exchange) : Type 0 where
  pub within : e.done ≤ length chunks
  pub words : e.verified ≡ words_behind e.from chunks e.done
  pub fits : PhaseFits chunks e.done e.phase
  pub paid : e.sent ≤ 128 * e.done + used_in e.duplex (chunk_nr chunks e.done) e.phase

-- the most characters that an exchange of so many chunks sends: theirs, and one `Z`
abbrev pub exchange_bound : ℕ → ℕ
exchange_bound chunks = 128 * chunks + 1

-- what is heard is the last character of the answer for a chunk, and the one that is awaited
abbrev pub EndsAnswer : Image → Chunk → Phase → Heard → Type 0
EndsAnswer image chunk phase heard = (place : ℕ) × (phase ≡ Answer place) × (place + 1 ≡ 2 * chunk.size) × (heard ≡ Got (answer_at image chunk place))
