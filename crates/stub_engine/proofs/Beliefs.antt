-- What an exchange of the engine says over a station's line.
use Rattle.std.proofs.Common.{◌≡◌, ℕ, List, [], Option, Some, None, sym, subst, ◌∙◌, append-nil}
use Rattle.tape_image.specs.Plan.{PlanValue}
use Rattle.host_core.specs.declared.heard.Heard.{Heard}
use Rattle.host_devices.specs.declared.item.Item.{Item}
use Rattle.host_devices.specs.Told.{Gains}
use Rattle.engine.proofs.Sessions.{gained_is}
use Rattle.engine.specs.declared.stop.Cut.TheVariants.{LineFailed, TurnsOver}
use Rattle.engine.specs.declared.stop.Stop.TheVariants.{Ended, KeepFailed, CutOff}
use Rattle.exchange_core.specs.declared.chunk.Chunk.{Chunk}
use Rattle.exchange_core.specs.declared.duplex.Duplex.{Duplex}
use Rattle.exchange_core.specs.declared.exchange.Exchange.{Exchange}
use Rattle.exchange_core.specs.Chunk.{AreChunks}
use Rattle.exchange_core.specs.Exchange.{begun, led}
use Rattle.exchange_law.specs.Law.{IsExchanged, dialogue}
use Rattle.exchange_law.specs.Line.{Passes}
use Rattle.exchange_law.proofs.Passing.{exchanges_are_true}
use Rattle.stub_engine.specs.Belief.{IsBelievableOver}
use Rattle.stub_engine.specs.Exchanging.{ExchangeStop, exchanging}
use Rattle.stub_engine.specs.Exchanged.{IsSaid, LacksKeys}

-- a front of the dialogue was said, up to some character
lacks : (stop : Option ExchangeStop) (all said : List Item) → IsSaid stop all said → LacksKeys all said
lacks None all said s = ([], sym s ∙ sym (append-nil said))
lacks (Some (Ended end)) all said s = ([], sym s ∙ sym (append-nil said))
lacks (Some (CutOff TurnsOver)) all said s = ([], sym s ∙ sym (append-nil said))
lacks (Some (CutOff (LineFailed fault))) all said s = s
lacks (Some (KeepFailed fault)) all said s = s

pub believable : (plan : PlanValue) (chunks : List Chunk) (stop : Option ExchangeStop) (from : ℕ) (duplex : Duplex) (e : Exchange) (heard : List Heard) (items : List Item) (line line' : Option (List Item)) → AreChunks plan from chunks → e ≡ led plan.image chunks (begun from duplex) heard →
    IsSaid stop (dialogue plan.image chunks (begun from duplex) heard) items → Gains line line' items → IsBelievableOver (exchanging plan chunks (begun from duplex, e) stop) line line'
believable plan chunks stop from duplex e heard items line line' are is s gains said gained program x y may passes =
    let short = lacks stop (dialogue plan.image chunks (begun from duplex) heard) items s in
    subst (λ e. IsExchanged program plan chunks x.machine.odt.memory e y) (sym is)
    (exchanges_are_true program x y (record { plan = plan; from = from; duplex = duplex; chunks = chunks; heard = heard; items = items; unsent = short.0 })
    (record { chunks = are; begins = may; stopped = short.1; passes = subst (λ list. Passes program x list y) (gained_is line line' said items gained gains) passes }))
