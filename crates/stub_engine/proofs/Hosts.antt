-- A host that holds plan and chunks does what an exchange of them does.
use Rattle.std.proofs.Common.{◌≡◌, ℕ, ◌-◌, List, [], ◌∷◌, ◌++◌, length, Option, Some, None, inl, inr, refl, ap, sym, ◌∙◌}
use Rattle.host_core.specs.declared.heard.Heard.{Heard}
use Rattle.host_devices.specs.declared.item.Item.{Item}
use Rattle.host_devices.specs.declared.item.Item.TheVariants.{Heard as Came}
use Rattle.host_devices.specs.declared.item.Kept.{Kept}
use Rattle.engine.specs.Keeping.{KeeperCalls}
use Rattle.engine.specs.Led.{IsLed, Scene, told_by}
use Rattle.engine.specs.Session.{IsAll, IsDone, Session, SessionTold, Unkept, Unsent, turns_of}
use Rattle.engine.specs.Ways.{GoesOn, dialogue, led, news_of, said_all}
use Rattle.engine.specs.declared.stop.Cut.TheVariants.{LineFailed, TurnsOver}
use Rattle.engine.specs.declared.stop.Stop.TheVariants.{Ended, KeepFailed, CutOff}
use Rattle.stub_engine.specs.declared.hosting.ExchangeHost.{ExchangeHost}
use Rattle.stub_engine.specs.Exchanging.{ExchangeStop, exchange_host, exchanges}

led_seen : (h : ExchangeHost) (heard : List Heard) → led exchange_host h heard ≡ record h { state = led (exchanges h.plan.now h.chunks.now) h.state heard }
led_seen h [] = refl
led_seen h (x ∷ more) = led_seen (exchange_host.step h x) more

goes_seen : (h : ExchangeHost) (heard : List Heard) → GoesOn exchange_host h heard → GoesOn (exchanges h.plan.now h.chunks.now) h.state heard
goes_seen h [] goes = tt
goes_seen h (x ∷ more) goes = (goes.0, goes_seen (exchange_host.step h x) more goes.1)

dialogue_seen : (h : ExchangeHost) (heard : List Heard) → dialogue exchange_host h heard ≡ dialogue (exchanges h.plan.now h.chunks.now) h.state heard
dialogue_seen h [] = refl
dialogue_seen h (x ∷ more) = ap (λ rest. Came x ∷ (said_all (exchange_host.keys h x) ++ rest)) (dialogue_seen (exchange_host.step h x) more)

news_seen : (h : ExchangeHost) (heard : List Heard) → news_of exchange_host h heard ≡ news_of (exchanges h.plan.now h.chunks.now) h.state heard
news_seen h [] = refl
news_seen h (x ∷ more) = ap (λ rest. exchange_host.news h x ++ rest) (news_seen (exchange_host.step h x) more)

module _ (h : ExchangeHost) (heard : List Heard) (said : List Item) (given : List Kept) where
  all_seen : IsAll exchange_host h heard said given → IsAll (exchanges h.plan.now h.chunks.now) h.state heard said given
  all_seen a = record { said_is = a.said_is ∙ dialogue_seen h heard; given_is = a.given_is ∙ news_seen h heard }

  unsent_seen : Unsent exchange_host h heard said given → Unsent (exchanges h.plan.now h.chunks.now) h.state heard said given
  unsent_seen u = record {
    first = u.first;
    last = u.last;
    heard_is = u.heard_is;
    front = u.front;
    key = u.key;
    rest = u.rest;
    keys_are = ap (λ (host : ExchangeHost). exchange_host.keys host u.last) (sym (led_seen h u.first)) ∙ u.keys_are;
    said_is = u.said_is ∙ ap (λ items. items ++ Came u.last ∷ said_all u.front) (dialogue_seen h u.first);
    given_is = u.given_is ∙ news_seen h heard;
  }

  unkept_seen : Unkept exchange_host h heard said given → Unkept (exchanges h.plan.now h.chunks.now) h.state heard said given
  unkept_seen u = record {
    first = u.first;
    last = u.last;
    heard_is = u.heard_is;
    said_is = u.said_is ∙ ap (λ items. items ++ Came u.last ∷ []) (dialogue_seen h u.first);
    front = u.front;
    item = u.item;
    rest = u.rest;
    news_are = ap (λ (host : ExchangeHost). exchange_host.news host u.last) (sym (led_seen h u.first)) ∙ u.news_are;
    given_is = u.given_is ∙ ap (λ items. items ++ (u.front ++ u.item ∷ [])) (news_seen h u.first);
  }

  done_seen : (stop : Option ExchangeStop) (left : ℕ) → IsDone exchange_host stop left h heard said given → IsDone (exchanges h.plan.now h.chunks.now) stop left h.state heard said given
  done_seen None left d = (all_seen d.0, d.1)
  done_seen (Some (Ended end)) left d = all_seen d
  done_seen (Some (CutOff TurnsOver)) left d = (all_seen d.0, d.1)
  done_seen (Some (CutOff (LineFailed fault))) left (inl d) = inl (all_seen d.0, d.1)
  done_seen (Some (CutOff (LineFailed fault))) left (inr d) = inr (unsent_seen d)
  done_seen (Some (KeepFailed fault)) left d = unkept_seen d

session_seen : (most : ℕ) (h g : ExchangeHost) (stop : Option ExchangeStop) (before after : SessionTold Kept) → Session most (turns_of exchange_host h g stop) before after →
    Session most (turns_of (exchanges h.plan.now h.chunks.now) h.state g.state stop) before after
session_seen most h g stop before after s = record {
  heard = s.heard;
  said = s.said;
  given = s.given;
  kept = s.kept;
  host = ap (λ (host : ExchangeHost). host.state) (s.host ∙ led_seen h s.heard);
  goes_on = goes_seen h s.heard s.goes_on;
  within = s.within;
  done = done_seen h s.heard s.said s.given stop (most - length s.heard) s.done;
  news = s.news;
  on_line = s.on_line;
  at_keeper = s.at_keeper;
}

-- the engine led an exchange where it led its host
pub led_as : {K : Type 0} (calls : KeeperCalls K Kept) (most : ℕ) (h g : ExchangeHost) (stop : ExchangeStop) (before after : Scene K) → IsLed calls most (turns_of exchange_host h g (Some stop)) before after →
    IsLed calls most (turns_of (exchanges h.plan.now h.chunks.now) h.state g.state (Some stop)) before after
unfolding session_seen
led_as calls most h g stop before after l = record {
  session = session_seen most h g (Some stop) (told_by calls before) (told_by calls after) l.session;
  end = l.end;
  counted = l.counted;
  named = l.named;
  keeper = l.keeper;
}
