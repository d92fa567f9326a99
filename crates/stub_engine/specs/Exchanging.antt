-- Turns of an exchange with a stub.
use Rattle.std.specs.Prelude.{ℕ, List, Option}
use Rattle.tape_image.specs.Plan.{PlanValue}
use Rattle.host_devices.specs.declared.item.Kept.{Kept}
use Rattle.exchange_core.specs.declared.chunk.Chunk.{Chunk}
use Rattle.exchange_core.specs.declared.exchange.Exchange.{Exchange}
use Rattle.exchange_core.specs.declared.phase.End.{End}
use Rattle.exchange_core.specs.Exchange.{advance, ended}
use Rattle.engine.specs.Session.{Session, SessionTold, Turns, turns_of}
use Rattle.engine.specs.Ways.{Ways}
use Rattle.engine.specs.declared.stop.Stop.{Stop}
use Rattle.stub_engine.specs.declared.hosting.ExchangeHost.{ExchangeHost}
use Rattle.stub_engine.specs.Keeping.{words_kept}

-- how they stopped
abbrev pub ExchangeStop : Type 0
ExchangeStop = Stop End

-- what an exchange of a plan's chunks makes of what it hears: it gives the words that become verified
abbrev pub exchanges : PlanValue → List Chunk → Ways Exchange End Kept
exchanges plan chunks = record {
  step = λ e heard. (advance plan.image chunks e heard).next;
  keys = λ e heard. (advance plan.image chunks e heard).keys;
  news = λ e heard. words_kept plan.words e.verified (advance plan.image chunks e heard).next.verified;
  ended = λ e. ended e.phase;
}

-- the same of a host that holds plan and chunks
abbrev pub exchange_host : Ways ExchangeHost End Kept
exchange_host = record {
  step = λ h heard. record h { state = (exchanges h.plan.now h.chunks.now).step h.state heard };
  keys = λ h heard. (exchanges h.plan.now h.chunks.now).keys h.state heard;
  news = λ h heard. (exchanges h.plan.now h.chunks.now).news h.state heard;
  ended = λ h. ended h.state.phase;
}

-- turns of an exchange of a plan's chunks: the exchange before and after them, and how they stopped (None: they are over, and may go on)
pub record Exchanging : Type 0 where
  pub plan : PlanValue
  pub chunks : List Chunk
  pub old : Exchange
  pub new : Exchange
  pub stop : Option ExchangeStop

abbrev pub exchanging : PlanValue → List Chunk → Exchange × Exchange → Option ExchangeStop → Exchanging
exchanging plan chunks states stop = record { plan = plan; chunks = chunks; old = states.0; new = states.1; stop = stop }

-- as the engine's turns of such a host
abbrev pub led_in : (turns : Exchanging) → Turns (exchanges turns.plan turns.chunks)
led_in turns = turns_of (exchanges turns.plan turns.chunks) turns.old turns.new turns.stop

-- at most so many of them, with what line and keeper told before and tell after
abbrev pub ExchangeSession : ℕ → Exchanging → SessionTold Kept → SessionTold Kept → Type 0
ExchangeSession most turns before after = Session most (led_in turns) before after
