-- What the engine's law says of an exchange.
use Rattle.std.proofs.Common.{◌≡◌, ℕ, ◌≤◌, List, [], ◌∷◌, ◌++◌, Option, Some, None, inl, inr, refl, arith, ap, sym, subst, ◌∙◌, append-nil}
use Rattle.tape_image.specs.Plan.{PlanValue}
use Rattle.host_core.specs.declared.heard.Heard.{Heard}
use Rattle.host_devices.specs.declared.item.Item.{Item}
use Rattle.host_devices.specs.declared.item.Item.TheVariants.{Heard as Came, Sent}
use Rattle.host_devices.specs.declared.item.Kept.{Kept}
use Rattle.exchange_core.specs.declared.chunk.Chunk.{Chunk}
use Rattle.exchange_core.specs.declared.exchange.Exchange.{Exchange}
use Rattle.exchange_core.specs.Chunk.{AreChunks}
use Rattle.exchange_core.specs.Exchange.{IsExchange, advance, led}
use Rattle.exchange_core.proofs.Steps.{are_small, step_from, step_grows, step_kept}
use Rattle.exchange_law.specs.Law.{dialogue, said_all}
use Rattle.engine.specs.Session.{IsDone}
use Rattle.engine.specs.Stopping.{keep_fault}
use Rattle.engine.specs.Ways.{dialogue as lead_dialogue, led as lead_led, news_of, said_all as lead_said}
use Rattle.engine.specs.declared.stop.Cut.TheVariants.{LineFailed, TurnsOver}
use Rattle.engine.specs.declared.stop.Stop.TheVariants.{Ended, KeepFailed, CutOff}
use Rattle.engine.proofs.Turns.{unkept_keys, unkept_news, unsent_keys}
use Rattle.stub_engine.specs.Exchanged.{IsGiven, IsSaid, LacksKeys}
use Rattle.stub_engine.specs.Exchanging.{ExchangeStop, exchanges}
use Rattle.stub_engine.specs.Keeping.{words_kept}
use Rattle.stub_engine.proofs.Keepings.{none_kept, words_join}

pub said_append : (keys more : List ℕ) → said_all (keys ++ more) ≡ said_all keys ++ said_all more
said_append [] more = refl
said_append (key ∷ keys) more = ap (λ items. Sent key ∷ items) (said_append keys more)

said_is : (keys : List ℕ) → lead_said keys ≡ said_all keys
said_is [] = refl
said_is (key ∷ keys) = ap (λ items. Sent key ∷ items) (said_is keys)

module _ (plan : PlanValue) (chunks : List Chunk) where
  pub led_is : (e : Exchange) (heard : List Heard) → lead_led (exchanges plan chunks) e heard ≡ led plan.image chunks e heard
  led_is e [] = refl
  led_is e (x ∷ more) = led_is (advance plan.image chunks e x).next more

  dialogue_is : (e : Exchange) (heard : List Heard) → lead_dialogue (exchanges plan chunks) e heard ≡ dialogue plan.image chunks e heard
  dialogue_is e [] = refl
  dialogue_is e (x ∷ more) =
      let s = advance plan.image chunks e x in
      ap (λ rest. Came x ∷ (lead_said s.keys ++ rest)) (dialogue_is s.next more) ∙ ap (λ keys. Came x ∷ (keys ++ dialogue plan.image chunks s.next more)) (said_is s.keys)

  -- an exchange of these chunks, and what it becomes
  pub record IsOf (e : Exchange) : Type 0 where
    pub chunks_are : AreChunks plan e.from chunks
    pub is : IsExchange chunks e

  step_of : (e : Exchange) (x : Heard) → IsOf e → IsOf (advance plan.image chunks e x).next
  step_of e x o = record {
    chunks_are = subst (λ n. AreChunks plan n chunks) (sym (step_from plan.image chunks e x)) o.chunks_are;
    is = step_kept plan.image chunks e x (are_small plan e.from chunks o.chunks_are) o.is;
  }

  pub led_from : (e : Exchange) (heard : List Heard) → (led plan.image chunks e heard).from ≡ e.from
  led_from e [] = refl
  led_from e (x ∷ more) = led_from (advance plan.image chunks e x).next more ∙ step_from plan.image chunks e x

  pub led_kept : (e : Exchange) (heard : List Heard) → IsOf e → IsExchange chunks (led plan.image chunks e heard)
  led_kept e [] o = o.is
  led_kept e (x ∷ more) o = led_kept (advance plan.image chunks e x).next more (step_of e x o)

  -- it verifies words and forgets none
  pub led_grows : (e : Exchange) (heard : List Heard) → IsOf e → e.verified ≤ (led plan.image chunks e heard).verified
  led_grows e [] o = omega arith
  led_grows e (x ∷ more) o =
      let first = step_grows plan chunks e x o.chunks_are o.is in
      let rest = led_grows (advance plan.image chunks e x).next more (step_of e x o) in omega (arith, first, rest)

  -- what it gives are the words that become verified
  news_are : (e : Exchange) (heard : List Heard) → IsOf e → news_of (exchanges plan chunks) e heard ≡ words_kept plan.words e.verified (led plan.image chunks e heard).verified
  news_are e [] o = sym (none_kept plan.words e.verified e.verified (omega arith))
  news_are e (x ∷ more) o =
      let next = (advance plan.image chunks e x).next in
      ap (λ rest. words_kept plan.words e.verified next.verified ++ rest) (news_are next more (step_of e x o))
      ∙ sym (words_join plan.words e.verified next.verified (led plan.image chunks next more).verified (step_grows plan chunks e x o.chunks_are o.is) (led_grows next more (step_of e x o)))

  -- ---- what was said of the dialogue

  whole : (e : Exchange) (heard : List Heard) (said : List Item) → said ≡ lead_dialogue (exchanges plan chunks) e heard → said ≡ dialogue plan.image chunks e heard
  whole e heard said is = is ∙ dialogue_is e heard

  short : (e : Exchange) (heard : List Heard) (said : List Item) (keys : List ℕ) → lead_dialogue (exchanges plan chunks) e heard ≡ said ++ lead_said keys → LacksKeys (dialogue plan.image chunks e heard) said
  short e heard said keys is = (keys, sym (dialogue_is e heard) ∙ (is ∙ ap (λ items. said ++ items) (said_is keys)))

  pub done_said : (stop : Option ExchangeStop) (left : ℕ) (e : Exchange) (heard : List Heard) (said : List Item) (given : List Kept) → IsDone (exchanges plan chunks) stop left e heard said given → IsSaid stop (dialogue plan.image chunks e heard) said
  done_said None left e heard said given d = whole e heard said d.0.said_is
  done_said (Some (Ended end)) left e heard said given d = whole e heard said d.said_is
  done_said (Some (CutOff TurnsOver)) left e heard said given d = whole e heard said d.0.said_is
  done_said (Some (CutOff (LineFailed fault))) left e heard said given (inl d) = ([], sym (whole e heard said d.0.said_is) ∙ sym (append-nil said))
  done_said (Some (CutOff (LineFailed fault))) left e heard said given (inr u) = short e heard said (u.key ∷ u.rest) (unsent_keys (exchanges plan chunks) e heard said given u)
  done_said (Some (KeepFailed fault)) left e heard said given u =
      short e heard said ((exchanges plan chunks).keys (lead_led (exchanges plan chunks) e u.first) u.last) (unkept_keys (exchanges plan chunks) e heard said given u)

  -- ---- what was given

  pub done_given : (stop : Option ExchangeStop) (left : ℕ) (e : Exchange) (heard : List Heard) (said : List Item) (given : List Kept) → IsOf e → IsDone (exchanges plan chunks) stop left e heard said given
      → IsGiven (keep_fault stop) (words_kept plan.words e.verified (led plan.image chunks e heard).verified) given
  done_given None left e heard said given o d = d.0.given_is ∙ news_are e heard o
  done_given (Some (Ended end)) left e heard said given o d = d.given_is ∙ news_are e heard o
  done_given (Some (CutOff TurnsOver)) left e heard said given o d = d.0.given_is ∙ news_are e heard o
  done_given (Some (CutOff (LineFailed fault))) left e heard said given o (inl d) = d.0.given_is ∙ news_are e heard o
  done_given (Some (CutOff (LineFailed fault))) left e heard said given o (inr u) = u.given_is ∙ news_are e heard o
  done_given (Some (KeepFailed fault)) left e heard said given o u = (u.rest, sym (news_are e heard o) ∙ unkept_news (exchanges plan chunks) e heard said given u)
