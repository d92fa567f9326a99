-- An exchange that the engine led was carried out.
use Rattle.std.proofs.Common.{◌≡◌, ℕ, ◌-◌, ◌≤◌, List, length, Some, refl, arith, ap, sym, subst, ◌∙◌}
use Rattle.tape_image.specs.Plan.{PlanValue}
use Rattle.host_devices.specs.declared.item.Kept.{Kept}
use Rattle.host_devices.specs.Devices.{Devices, devices}
use Rattle.exchange_core.specs.declared.chunk.Chunk.{Chunk}
use Rattle.exchange_core.specs.declared.duplex.Duplex.{Duplex}
use Rattle.exchange_core.specs.declared.exchange.Exchange.{Exchange}
use Rattle.exchange_core.specs.Chunk.{AreChunks}
use Rattle.exchange_core.specs.Exchange.{IsExchange, begun, led}
use Rattle.exchange_core.proofs.Steps.{are_small, bound_kept}
use Rattle.engine.specs.Keeping.{KeeperCalls}
use Rattle.engine.specs.Led.{IsLed, Scene}
use Rattle.engine.specs.Session.{turns_of}
use Rattle.engine.specs.Stopping.{keep_fault}
use Rattle.stub_engine.specs.declared.hosting.ExchangeHost.{ExchangeHost}
use Rattle.stub_engine.specs.Exchanged.{IsCarriedOut, IsGiven, turns_give}
use Rattle.stub_engine.specs.Exchanging.{ExchangeStop, exchange_host, exchanges, exchanging, led_in}
use Rattle.stub_engine.specs.Keeping.{IsKeptBy, words_kept}
use Rattle.stub_engine.proofs.Beliefs.{believable}
use Rattle.stub_engine.proofs.Hosts.{led_as}
use Rattle.stub_engine.proofs.Keepings.{kept_of}
use Rattle.stub_engine.proofs.Sessions.{IsOf, done_given, done_said, led_from, led_grows, led_is, led_kept}

abbrev pub devices_at : {K : Type 0} → KeeperCalls K Kept → Scene K → Devices
devices_at calls s = devices s.line (calls.told s.keeper)

pub begun_kept : (from : ℕ) (duplex : Duplex) (chunks : List Chunk) → IsExchange chunks (begun from duplex)
begun_kept from duplex chunks = record { within = omega arith; words = refl; fits = refl; paid = omega arith }

module _ {K : Type 0} (calls : KeeperCalls K Kept) (plan : PlanValue) (chunks : List Chunk) (from : ℕ) (duplex : Duplex) (are : AreChunks plan from chunks) where
  abbrev first : Exchange
  first = begun from duplex

  begins : IsOf plan chunks first
  begins = record { chunks_are = are; is = begun_kept from duplex chunks }

  given_so : (most : ℕ) (new : Exchange) (stop : ExchangeStop) (before after : Scene K) (l : IsLed calls most (led_in (exchanging plan chunks (first, new) (Some stop))) before after) →
      IsGiven (keep_fault (Some stop)) (words_kept plan.words from new.verified) l.session.given
  given_so most new stop before after l =
      let s = l.session in
      subst (λ (e : Exchange). IsGiven (keep_fault (Some stop)) (words_kept plan.words from e.verified) s.given) (sym (s.host ∙ led_is plan chunks first s.heard))
      (done_given plan chunks (Some stop) (most - length s.heard) first s.heard s.said s.given begins s.done)

  carried : (most : ℕ) (new : Exchange) (stop : ExchangeStop) (before after : Scene K) → IsLed calls most (led_in (exchanging plan chunks (first, new) (Some stop))) before after →
      IsCarriedOut most (exchanging plan chunks (first, new) (Some stop)) (devices_at calls before) (devices_at calls after)
  carried most new stop before after l =
      let s = l.session in
      let is : new ≡ led plan.image chunks first s.heard = s.host ∙ led_is plan chunks first s.heard in
      let said = done_said plan chunks (Some stop) (most - length s.heard) first s.heard s.said s.given s.done in
      let kept : IsExchange chunks new = subst (IsExchange chunks) (sym is) (led_kept plan chunks first s.heard begins) in record {
        session = s;
        exchange = is;
        said = said;
        given = given_so most new stop before after l;
        end = l.end;
        counted = l.counted;
        named = l.named;
        honest = believable plan chunks (Some stop) from duplex new s.heard s.said before.line.said after.line.said are is said s.on_line;
        from_same = ap (λ (e : Exchange). e.from) is ∙ led_from plan chunks first s.heard;
        grows = subst (λ (e : Exchange). from ≤ e.verified) (sym is) (led_grows plan chunks first s.heard begins);
        kept = kept;
        bound = bound_kept chunks new (are_small plan from chunks are) kept;
      }

  carried_kept : (most : ℕ) (new : Exchange) (stop : ExchangeStop) (before after : Scene K) → IsLed calls most (led_in (exchanging plan chunks (first, new) (Some stop))) before after →
      IsKeptBy calls (turns_give (exchanging plan chunks (first, new) (Some stop))) before.keeper after.keeper
  carried_kept most new stop before after l =
      kept_of calls (keep_fault (Some stop)) (words_kept plan.words from new.verified) l.session.given before.keeper after.keeper (given_so most new stop before after l) l.keeper

-- by its host
module _ {K : Type 0} (calls : KeeperCalls K Kept) (most : ℕ) (h g : ExchangeHost) (from : ℕ) (duplex : Duplex) (stop : ExchangeStop) (before after : Scene K) (are : AreChunks h.plan.now from h.chunks.now) (begins_so : h.state ≡ begun from duplex)
    (l : IsLed calls most (turns_of exchange_host h g (Some stop)) before after) where
  abbrev turns_are : Exchange → Type 0
  turns_are e = IsLed calls most (turns_of (exchanges h.plan.now h.chunks.now) e g.state (Some stop)) before after

  as_exchange : turns_are (begun from duplex)
  as_exchange = subst turns_are begins_so (led_as calls most h g stop before after l)

  pub carried_out : IsCarriedOut most (exchanging h.plan.now h.chunks.now (begun from duplex, g.state) (Some stop)) (devices_at calls before) (devices_at calls after)
  carried_out = carried calls h.plan.now h.chunks.now from duplex are most g.state stop before after as_exchange

  pub kept_out : IsKeptBy calls (turns_give (exchanging h.plan.now h.chunks.now (begun from duplex, g.state) (Some stop))) before.keeper after.keeper
  kept_out = carried_kept calls h.plan.now h.chunks.now from duplex are most g.state stop before after as_exchange
