-- Sessions of the engine: one turn of each kind, two sessions one after the other, and how a session stops.
use Rattle.std.proofs.Common.{◌≡◌, ℕ, ◌+◌, ◌-◌, ◌≤◌, List, [], ◌∷◌, ◌++◌, length, Option, Some, None, inl, inr, refl, arith, ap, sym, subst, ◌∙◌, append-nil, length-append}
use Rattle.std.proofs.lemmas.List.{append_cancel_left}
use Rattle.host_core.specs.declared.heard.Heard.{Heard}
use Rattle.host_devices.specs.declared.fault.KeepFault.{KeepFault}
use Rattle.host_devices.specs.declared.fault.LineFault.{LineFault}
use Rattle.host_devices.specs.declared.item.Item.{Item}
use Rattle.host_devices.specs.declared.item.Item.TheVariants.{Heard as Came}
use Rattle.host_devices.specs.Failures.{CountsFault, one_more}
use Rattle.host_devices.specs.Told.{Gains, SaysNothing}
use Rattle.host_devices.proofs.Told.{gains_none, gains_kept, gains_join}
use Rattle.engine.specs.Giving.{GainsFront, Keeps, KeepsFront}
use Rattle.engine.specs.Keeping.{KeeperCalls}
use Rattle.engine.specs.Led.{IsLed, Scene, told_by}
use Rattle.engine.specs.Session.{HasGained, IsDone, Session, SessionTold, turns_of}
use Rattle.engine.specs.Stopping.{IsFailure, keep_fault, line_fault}
use Rattle.engine.specs.Ways.{GoesOn, Ways, led, said_all}
use Rattle.engine.specs.declared.stop.Stop.{Stop}
use Rattle.engine.specs.declared.stop.Cut.TheVariants.{LineFailed, TurnsOver}
use Rattle.engine.specs.declared.stop.Stop.TheVariants.{Ended, KeepFailed, CutOff}
use Rattle.engine.proofs.Keepings.{kept_all, kept_front, kept_join, told_join}
use Rattle.engine.proofs.Turns.{done_join, done_wider, goes_join, led_join}

-- what a told list has gained is one list alone
pub gained_is : {A : Type 0} → (old new : Option (List A)) (more other : List A) → HasGained old new more → Gains old new other → more ≡ other
gained_is {A} old new more other h g =
    append_cancel_left h.0 more other (told (subst (λ o. Gains o new other) h.1 g)) where
      told : Gains (Some h.0) new other → h.0 ++ more ≡ h.0 ++ other
      told first = let P : Option (List A) → Type 0 = λ o. Gains (Some h.0) o other in subst P h.2 first

-- ---- no turn, and one turn by how far it came

pub led_none : {Host End News K : Type 0} (ways : Ways Host End News) (calls : KeeperCalls K News) (h : Host) (s : Scene K) → IsLed calls 0 (turns_of ways h h None) s s
led_none ways calls h s = record {
  session = record {
    heard = [];
    said = [];
    given = [];
    kept = [];
    host = refl;
    goes_on = tt;
    within = omega arith;
    done = (record { said_is = refl; given_is = refl }, omega arith);
    news = refl;
    on_line = gains_none s.line.said;
    at_keeper = gains_none (calls.told s.keeper);
  };
  end = tt;
  counted = refl;
  named = tt;
  keeper = kept_all calls s.keeper s.keeper [] refl refl;
}

-- the line fails at the hear
pub turn_deaf : {Host End News K : Type 0} (ways : Ways Host End News) (calls : KeeperCalls K News) (fault : LineFault) (h : Host) (old new : Scene K) → new.keeper ≡ old.keeper → SaysNothing old.line.said new.line.said
    → new.line.failures ≡ one_more old.line.failures → new.line.fault ≡ Some fault → IsLed calls 1 (turns_of ways h h (Some (CutOff (LineFailed fault)))) old new
turn_deaf {Host} {End} {News} {K} ways calls fault h old new same nothing counted named =
    let P : K → Type 0 = λ keeper. Gains (calls.told old.keeper) (calls.told keeper) [] in
    record {
      session = record {
        heard = [];
        said = [];
        given = [];
        kept = [];
        host = refl;
        goes_on = tt;
        within = omega arith;
        done = inl (record { said_is = refl; given_is = refl }, omega arith);
        news = refl;
        on_line = gains_kept old.line.said new.line.said nothing;
        at_keeper = subst P (sym same) (gains_none (calls.told old.keeper));
      };
      end = tt;
      counted = counted;
      named = named;
      keeper = kept_all calls old.keeper new.keeper [] same (ap (λ keeper. calls.failures keeper) same);
    }

-- one turn, in which this was heard and the host answered so
pub record IsStep {Host End News : Type 0} (ways : Ways Host End News) (old new : Host) (heard : Heard) (keys : List ℕ) (items : List News) : Type 0 where
  pub goes : ways.ended old ≡ None
  pub next : new ≡ ways.step old heard
  pub keys_are : keys ≡ ways.keys old heard
  pub news_are : items ≡ ways.news old heard

-- the keeper fails
pub turn_unkept : {Host End News K : Type 0} (ways : Ways Host End News) (calls : KeeperCalls K News) (fault : KeepFault) (h h' : Host) (old new : Scene K) (heard : Heard) (keys : List ℕ) (items : List News) → IsStep ways h h' heard keys items
    → Gains old.line.said new.line.said (Came heard ∷ []) → new.line.failures ≡ old.line.failures → KeepsFront calls fault old.keeper items new.keeper → IsLed calls 1 (turns_of ways h h' (Some (KeepFailed fault))) old new
turn_unkept ways calls fault h h' old new heard keys items step hears counted k = record {
  session = record {
    heard = heard ∷ [];
    said = Came heard ∷ [];
    given = k.front ++ k.item ∷ [];
    kept = k.front;
    host = step.next;
    goes_on = (step.goes, tt);
    within = omega arith;
    done = record {
      first = [];
      last = heard;
      heard_is = refl;
      said_is = refl;
      front = k.front;
      item = k.item;
      rest = k.rest;
      news_are = sym step.news_are ∙ k.items_are;
      given_is = refl;
    };
    news = (k.item, refl);
    on_line = hears;
    at_keeper = subst (Gains (calls.told old.keeper) (calls.told new.keeper)) (append-nil k.front) (gains_join (calls.told old.keeper) (calls.told k.next) (calls.told new.keeper) k.front [] k.kept.told (gains_kept (calls.told k.next) (calls.told new.keeper) k.nothing));
  };
  end = tt;
  counted = counted;
  named = tt;
  keeper = kept_front calls fault old.keeper new.keeper items k;
}

-- the line fails at a key
pub turn_unsent : {Host End News K : Type 0} (ways : Ways Host End News) (calls : KeeperCalls K News) (fault : LineFault) (h h' : Host) (old new : Scene K) (heard : Heard) (keys : List ℕ) (items : List News) (line : Option (List Item)) → IsStep ways h h' heard keys items
    → Gains old.line.said line (Came heard ∷ []) → GainsFront line new.line.said keys → new.line.failures ≡ one_more old.line.failures → new.line.fault ≡ Some fault → Keeps calls old.keeper items new.keeper
    → IsLed calls 1 (turns_of ways h h' (Some (CutOff (LineFailed fault)))) old new
turn_unsent ways calls fault h h' old new heard keys items line step hears (front, more, said) counted named k = record {
  session = record {
    heard = heard ∷ [];
    said = Came heard ∷ said_all front;
    given = items;
    kept = items;
    host = step.next;
    goes_on = (step.goes, tt);
    within = omega arith;
    done = inr record {
      first = [];
      last = heard;
      heard_is = refl;
      front = front;
      key = more.next;
      rest = more.rest;
      keys_are = sym step.keys_are ∙ more.is;
      said_is = refl;
      given_is = step.news_are ∙ sym (append-nil (ways.news h heard));
    };
    news = refl;
    on_line = gains_join old.line.said line new.line.said (Came heard ∷ []) (said_all front) hears said;
    at_keeper = k.told;
  };
  end = tt;
  counted = counted;
  named = named;
  keeper = kept_all calls old.keeper new.keeper items k.each k.counted;
}

-- a whole turn
pub turn_done : {Host End News K : Type 0} (ways : Ways Host End News) (calls : KeeperCalls K News) (h h' : Host) (old new : Scene K) (heard : Heard) (keys : List ℕ) (items : List News) (line : Option (List Item)) → IsStep ways h h' heard keys items
    → Gains old.line.said line (Came heard ∷ []) → Gains line new.line.said (said_all keys) → new.line.failures ≡ old.line.failures → Keeps calls old.keeper items new.keeper → IsLed calls 1 (turns_of ways h h' None) old new
turn_done ways calls h h' old new heard keys items line step hears said counted k = record {
  session = record {
    heard = heard ∷ [];
    said = Came heard ∷ said_all keys;
    given = items;
    kept = items;
    host = step.next;
    goes_on = (step.goes, tt);
    within = omega arith;
    done = (
      record {
        said_is = ap (λ rest. Came heard ∷ rest) (ap said_all step.keys_are ∙ sym (append-nil (said_all (ways.keys h heard))));
        given_is = step.news_are ∙ sym (append-nil (ways.news h heard));
      },
      omega arith,
    );
    news = refl;
    on_line = gains_join old.line.said line new.line.said (Came heard ∷ []) (said_all keys) hears said;
    at_keeper = k.told;
  };
  end = tt;
  counted = counted;
  named = tt;
  keeper = kept_all calls old.keeper new.keeper items k.each k.counted;
}

-- ---- two sessions, one after the other

pub session_join : {Host End News : Type 0} (ways : Ways Host End News) (turns more : ℕ) (stop : Option (Stop End)) (a b c : Host) (before between after : SessionTold News) → Session turns (turns_of ways a b None) before between
    → Session more (turns_of ways b c stop) between after → Session (turns + more) (turns_of ways a c stop) before after
session_join {Host} ways turns more stop a b c before between after s t =
    let P : Host → Type 0 = λ h. GoesOn ways h t.heard in
    let left : more - length t.heard ≡ turns + more - length (s.heard ++ t.heard) = omega (arith, s.within, s.done.1, length-append s.heard t.heard) in
    let D : Host → Type 0 = λ h. IsDone ways stop (more - length t.heard) h t.heard t.said t.given in
    record {
      heard = s.heard ++ t.heard;
      said = s.said ++ t.said;
      given = s.given ++ t.given;
      kept = s.kept ++ t.kept;
      host = t.host ∙ (ap (λ h. led ways h t.heard) s.host ∙ sym (led_join ways a s.heard t.heard));
      goes_on = goes_join ways a s.heard t.heard s.goes_on (subst P s.host t.goes_on);
      within = omega (arith, s.within, t.within, length-append s.heard t.heard);
      done = subst (λ n. IsDone ways stop n a (s.heard ++ t.heard) (s.said ++ t.said) (s.given ++ t.given)) left
          (done_join ways stop (more - length t.heard) a s.heard t.heard s.said t.said s.given t.given s.done.0 (subst D s.host t.done));
      news = told_join (keep_fault stop) s.given s.kept t.given t.kept s.news t.news;
      on_line = gains_join before.said between.said after.said s.said t.said s.on_line t.on_line;
      at_keeper = gains_join before.kept between.kept after.kept s.kept t.kept s.at_keeper t.at_keeper;
    }

pub turns_join : {Host End News K : Type 0} (ways : Ways Host End News) (calls : KeeperCalls K News) (turns more : ℕ) (stop : Option (Stop End)) (a b c : Host) (before between after : Scene K) → IsLed calls turns (turns_of ways a b None) before between
    → IsLed calls more (turns_of ways b c stop) between after → IsLed calls (turns + more) (turns_of ways a c stop) before after
unfolding session_join
turns_join ways calls turns more stop a b c before between after s t = record {
  session = session_join ways turns more stop a b c (told_by calls before) (told_by calls between) (told_by calls after) s.session t.session;
  end = t.end;
  counted = subst (λ count. CountsFault (line_fault stop) count after.line.failures) s.counted t.counted;
  named = t.named;
  keeper = kept_join calls (keep_fault stop) before.keeper between.keeper after.keeper s.session.given t.session.given s.keeper t.keeper;
}

-- ---- how turns stop

-- a failure with turns to spare
pub led_wider : {Host End News K : Type 0} (ways : Ways Host End News) (calls : KeeperCalls K News) (stop : Stop End) (turns most : ℕ) (a b : Host) (before after : Scene K) → IsFailure stop → turns ≤ most
    → IsLed calls turns (turns_of ways a b (Some stop)) before after → IsLed calls most (turns_of ways a b (Some stop)) before after
led_wider ways calls stop turns most a b before after f le l =
    let s = l.session in
    record {
      session = record {
        heard = s.heard;
        said = s.said;
        given = s.given;
        kept = s.kept;
        host = s.host;
        goes_on = s.goes_on;
        within = omega (arith, s.within, le);
        done = done_wider ways stop (turns - length s.heard) (most - length s.heard) a s.heard s.said s.given f (omega (arith, le)) s.done;
        news = s.news;
        on_line = s.on_line;
        at_keeper = s.at_keeper;
      };
      end = l.end;
      counted = l.counted;
      named = l.named;
      keeper = l.keeper;
    }

-- the host has come to an end
pub led_ended : {Host End News K : Type 0} (ways : Ways Host End News) (calls : KeeperCalls K News) (end : End) (turns most : ℕ) (a b : Host) (before after : Scene K) → ways.ended b ≡ Some end → turns ≤ most
    → IsLed calls turns (turns_of ways a b None) before after → IsLed calls most (turns_of ways a b (Some (Ended end))) before after
led_ended ways calls end turns most a b before after is le l =
    let s = l.session in
    record {
      session = record {
        heard = s.heard;
        said = s.said;
        given = s.given;
        kept = s.kept;
        host = s.host;
        goes_on = s.goes_on;
        within = omega (arith, s.within, le);
        done = s.done.0;
        news = s.news;
        on_line = s.on_line;
        at_keeper = s.at_keeper;
      };
      end = is;
      counted = l.counted;
      named = tt;
      keeper = l.keeper;
    }

-- the turns are over
pub led_over : {Host End News K : Type 0} (ways : Ways Host End News) (calls : KeeperCalls K News) (turns : ℕ) (a b : Host) (before after : Scene K) → ways.ended b ≡ None → IsLed calls turns (turns_of ways a b None) before after
    → IsLed calls turns (turns_of ways a b (Some (CutOff TurnsOver))) before after
led_over ways calls turns a b before after is l =
    let s = l.session in
    record {
      session = record {
        heard = s.heard;
        said = s.said;
        given = s.given;
        kept = s.kept;
        host = s.host;
        goes_on = s.goes_on;
        within = s.within;
        done = s.done;
        news = s.news;
        on_line = s.on_line;
        at_keeper = s.at_keeper;
      };
      end = is;
      counted = l.counted;
      named = tt;
      keeper = l.keeper;
    }
