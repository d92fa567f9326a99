-- What the one engine's law says of hosts that store nothing.
use Rattle.std.proofs.Common.{◌≡◌, ◌⊎◌, ℕ, ◌-◌, true, List, [], ◌∷◌, ◌++◌, inl, inr, length, Option, Some, None, Result, Err, refl, arith, ap, sym, subst, ◌∙◌, append-nil, length-append}
use Rattle.std.specs.Prelude.{option_to_list, unwrap_or}
use Rattle.host_core.specs.declared.heard.Heard.{Heard}
use Rattle.host_devices.specs.declared.item.Item.{Item}
use Rattle.host_devices.specs.declared.item.Item.TheVariants.{Heard as Came}
use Rattle.host_devices.specs.Dialogue.{LacksKey, said}
use Rattle.engine.specs.Keeping.{KeeperCalls}
use Rattle.engine.specs.Led.{IsLed, Scene, told_by}
use Rattle.engine.specs.Session.{IsDone, Session as LedSession, SessionTold, turns_of}
use Rattle.engine.specs.Ways.{GoesOn as LeadGoesOn, Ways as LeadWays, dialogue as lead_dialogue, led as lead_led, said_all}
use Rattle.engine.specs.declared.stop.Cut.{Cut}
use Rattle.engine.specs.declared.stop.Stop.{Stop}
use Rattle.engine.specs.declared.stop.Cut.TheVariants.{LineFailed, TurnsOver}
use Rattle.engine.specs.declared.stop.Stop.TheVariants.{Ended, KeepFailed, CutOff}
use Rattle.engine.proofs.Turns.{unkept_keys, unsent_key}
use Rattle.looking_law.specs.Belief.{dialogue}
use Rattle.looking_law.specs.Trying.{trial_dialogue}
use Rattle.reading_core.specs.Laws.{led}
use Rattle.reading_core.specs.Reader.{Reader}
use Rattle.reading_core.specs.ReadingTable.{ask, is_read, turn_of}
use Rattle.reading_core.specs.declared.turn.Turn.{Turn}
use Rattle.reading_core.specs.declared.turn.Turn.TheVariants.{Listen, Key, Read, Again, Next, Stop as Stops, Stray, Timeout}
use Rattle.trial_core.specs.declared.trial.Trial.{Trial}
use Rattle.trial_core.specs.Laws.{led as trial_led}
use Rattle.trial_core.specs.TrialTable.{ask as trial_ask}
use Rattle.looking_engine.specs.Leading.{a_trial, number_of, reading, reads, stop_of, tries}
use Rattle.looking_engine.specs.Session.{AreTurns, GoesOn, IsSaid, LacksItsKey, Session}
use Rattle.looking_engine.specs.Turns.{looking}
use Rattle.looking_engine.specs.Ways.{Ways, readings, trials}

-- such a host is led as its own ways say, and sends one key a step at most
pub record IsLooker {Host Core End News : Type 0} (ways : LeadWays Host End News) (own : Ways Core End) (core : Host → Core) : Type 0 where
  pub led : (h : Host) (heard : List Heard) → core (lead_led ways h heard) ≡ own.led (core h) heard
  pub dialogue : (h : Host) (heard : List Heard) → lead_dialogue ways h heard ≡ own.dialogue (core h) heard
  pub goes : (h : Host) (heard : List Heard) → LeadGoesOn ways h heard → GoesOn own (core h) heard
  pub ended : (h : Host) → ways.ended h ≡ own.ended (core h)
  pub key : Host → Heard → Option ℕ
  pub keys_are : (h : Host) (heard : Heard) → ways.keys h heard ≡ option_to_list (key h heard)
  pub gives : (h : Host) (heard : Heard) (front : List News) (item : News) (rest : List News) → ways.news h heard ≡ front ++ item ∷ rest → own.gives (core h) heard ≡ true

-- ---- what was said

perhaps_key : (o : Option ℕ) (all items : List Item) → all ≡ items ++ said_all (option_to_list o) → (items ≡ all) ⊎ LacksKey all items
perhaps_key None all items e = inl (sym (e ∙ append-nil items))
perhaps_key (Some key) all items e = inr (key, e)

is_said : {Host Core End News : Type 0} (ways : LeadWays Host End News) (own : Ways Core End) (core : Host → Core) → IsLooker ways own core → (stop : Stop End) (left : ℕ) (h : Host) (heard : List Heard) (items : List Item) (given : List News)
    → IsDone ways (Some stop) left h heard items given → IsSaid (stop_of stop) left (own.dialogue (core h) heard) items
is_said ways own core is (Ended end) left h heard items given d = d.said_is ∙ is.dialogue h heard
is_said ways own core is (CutOff TurnsOver) left h heard items given d = (d.0.said_is ∙ is.dialogue h heard, d.1)
is_said ways own core is (KeepFailed fault) left h heard items given u =
    let mid = lead_led ways h u.first in
    perhaps_key (is.key mid u.last) (own.dialogue (core h) heard) items
    (sym (is.dialogue h heard) ∙ (unkept_keys ways h heard items given u ∙ ap (λ keys. items ++ said_all keys) (is.keys_are mid u.last)))
is_said ways own core is (CutOff (LineFailed fault)) left h heard items given (inl d) = inl (d.0.said_is ∙ is.dialogue h heard, d.1)
is_said ways own core is (CutOff (LineFailed fault)) left h heard items given (inr u) =
    inr (subst (λ all. LacksKey all items) (is.dialogue h heard) (unsent_key ways is.key h heard items given is.keys_are u))

-- where the keeper failed
is_unkept : {Host Core End News : Type 0} (ways : LeadWays Host End News) (own : Ways Core End) (core : Host → Core) → IsLooker ways own core → (stop : Stop End) (left : ℕ) (h : Host) (heard : List Heard) (items : List Item) (given : List News)
    → IsDone ways (Some stop) left h heard items given → stop_of stop ≡ None → (items ≡ own.dialogue (core h) heard) ⊎ LacksItsKey own (core h) heard items
is_unkept ways own core is (Ended end) left h heard items given d none = absurd (cc none)
is_unkept ways own core is (CutOff cut) left h heard items given d none = absurd (cc none)
is_unkept {Host} {Core} ways own core is (KeepFailed fault) left h heard items given u none =
    let P : Core → Type 0 = λ c. own.gives c u.last ≡ true in
    inr record {
      first = u.first;
      last = u.last;
      heard_is = u.heard_is;
      said_is = u.said_is ∙ ap (λ front. front ++ Came u.last ∷ []) (is.dialogue h u.first);
      gives = subst P (is.led h u.first) (is.gives (lead_led ways h u.first) u.last u.front u.item u.rest u.news_are);
    }

-- ---- turns

session_is : {Host Core End News : Type 0} (ways : LeadWays Host End News) (own : Ways Core End) (core : Host → Core) → IsLooker ways own core → (most : ℕ) (stop : Stop End) (a b : Host) (before after : SessionTold News)
    → LedSession most (turns_of ways a b (Some stop)) before after → Session most (looking own (core a) (core b) (stop_of stop)) before.said after.said
session_is ways own core is most stop a b before after s = record {
  heard = s.heard;
  said = s.said;
  host = ap core s.host ∙ is.led a s.heard;
  goes_on = is.goes a s.heard s.goes_on;
  within = s.within;
  items = is_said ways own core is stop (most - length s.heard) a s.heard s.said s.given s.done;
  unkept = λ none. is_unkept ways own core is stop (most - length s.heard) a s.heard s.said s.given s.done none;
  on_line = s.on_line;
}

pub are_turns : {Host Core End News K : Type 0} (ways : LeadWays Host End News) (own : Ways Core End) (core : Host → Core) → IsLooker ways own core → (calls : KeeperCalls K News) (most : ℕ) (stop : Stop End) (a b : Host) (before after : Scene K)
    → IsLed calls most (turns_of ways a b (Some stop)) before after → AreTurns most (looking own (core a) (core b) (stop_of stop)) before.line after.line
are_turns ways own core is calls most (Ended end) a b before after l = record {
  session = session_is ways own core is most (Ended end) a b (told_by calls before) (told_by calls after) l.session;
  end = sym (is.ended b) ∙ l.end;
  counted = l.counted;
  named = l.named;
}
are_turns ways own core is calls most (CutOff TurnsOver) a b before after l = record {
  session = session_is ways own core is most (CutOff TurnsOver) a b (told_by calls before) (told_by calls after) l.session;
  end = sym (is.ended b) ∙ l.end;
  counted = l.counted;
  named = l.named;
}
are_turns ways own core is calls most (CutOff (LineFailed fault)) a b before after l = record {
  session = session_is ways own core is most (CutOff (LineFailed fault)) a b (told_by calls before) (told_by calls after) l.session;
  end = tt;
  counted = l.counted;
  named = l.named;
}
are_turns ways own core is calls most (KeepFailed fault) a b before after l = record {
  session = session_is ways own core is most (KeepFailed fault) a b (told_by calls before) (told_by calls after) l.session;
  end = tt;
  counted = l.counted;
  named = l.named;
}

-- ---- a reader

said_is : (o : Option ℕ) → said_all (option_to_list o) ≡ said o
said_is None = refl
said_is (Some key) = refl

led_is : (r : Reader) (heard : List Heard) → (lead_led reads (reading r) heard).core ≡ led r heard
led_is r [] = refl
led_is r (heard ∷ more) = led_is (ask r heard).next more

dialogue_is : (r : Reader) (heard : List Heard) → lead_dialogue reads (reading r) heard ≡ dialogue r heard
dialogue_is r [] = refl
dialogue_is r (heard ∷ more) =
    ap (λ front. Came heard ∷ (front ++ lead_dialogue reads (reading (ask r heard).next) more)) (said_is (ask r heard).key)
    ∙ ap (λ rest. Came heard ∷ (said (ask r heard).key ++ rest)) (dialogue_is (ask r heard).next more)

goes_is : (r : Reader) (heard : List Heard) → LeadGoesOn reads (reading r) heard → GoesOn readings r heard
goes_is r [] g = tt
goes_is r (heard ∷ more) g = (g.0, goes_is (ask r heard).next more g.1)

nothing_given : {A : Type 0} (front : List A) (item : A) (rest : List A) → [] ≡ front ++ item ∷ rest → ⊥
nothing_given front item rest e = omega (arith, ap length e, length-append front (item ∷ rest))

reads_one : (turn : Turn) (front : List ℕ) (item : ℕ) (rest : List ℕ) → option_to_list (number_of turn) ≡ front ++ item ∷ rest → is_read turn ≡ true
reads_one (Read number) front item rest e = refl
reads_one (Listen phase) front item rest e = absurd (nothing_given front item rest e)
reads_one (Key key phase) front item rest e = absurd (nothing_given front item rest e)
reads_one (Again number) front item rest e = absurd (nothing_given front item rest e)
reads_one Next front item rest e = absurd (nothing_given front item rest e)
reads_one (Stops end) front item rest e = absurd (nothing_given front item rest e)
reads_one Stray front item rest e = absurd (nothing_given front item rest e)
reads_one Timeout front item rest e = absurd (nothing_given front item rest e)

pub reader_looks : IsLooker reads readings (λ r. r.core)
reader_looks = record {
  led = λ r heard. led_is r.core heard;
  dialogue = λ r heard. dialogue_is r.core heard;
  goes = λ r heard g. goes_is r.core heard g;
  ended = λ r. refl;
  key = λ r heard. (ask r.core heard).key;
  keys_are = λ r heard. refl;
  gives = λ r heard. reads_one (turn_of r.core heard);
}

-- ---- a trial

trial_led_is : (t : Trial) (heard : List Heard) → (lead_led tries (a_trial t) heard).trial ≡ trial_led t heard
trial_led_is t [] = refl
trial_led_is t (heard ∷ more) = trial_led_is (trial_ask t heard).next more

trial_dialogue_is : (t : Trial) (heard : List Heard) → lead_dialogue tries (a_trial t) heard ≡ trial_dialogue t heard
trial_dialogue_is t [] = refl
trial_dialogue_is t (heard ∷ more) =
    ap (λ front. Came heard ∷ (front ++ lead_dialogue tries (a_trial (trial_ask t heard).next) more)) (said_is (trial_ask t heard).key)
    ∙ ap (λ rest. Came heard ∷ (said (trial_ask t heard).key ++ rest)) (trial_dialogue_is (trial_ask t heard).next more)

trial_goes_is : (t : Trial) (heard : List Heard) → LeadGoesOn tries (a_trial t) heard → GoesOn trials t heard
trial_goes_is t [] g = tt
trial_goes_is t (heard ∷ more) g = (g.0, trial_goes_is (trial_ask t heard).next more g.1)

pub trial_looks : IsLooker tries trials (λ t. t.trial)
trial_looks = record {
  led = λ t heard. trial_led_is t.trial heard;
  dialogue = λ t heard. trial_dialogue_is t.trial heard;
  goes = λ t heard g. trial_goes_is t.trial heard g;
  ended = λ t. refl;
  key = λ t heard. (trial_ask t.trial heard).key;
  keys_are = λ t heard. refl;
  gives = λ t heard front item rest e. absurd (nothing_given front item rest e);
}

-- ---- nothing is to be kept

-- where no call of the keeper fails, the engine stops otherwise
pub never_unkept : {Host Core End News K : Type 0} (ways : LeadWays Host End News) (own : Ways Core End) (core : Host → Core) → IsLooker ways own core → (calls : KeeperCalls K News) → ((a : K) (item : News) (b : K) → calls.fails a item b → ⊥)
    → (most : ℕ) (stop : Stop End) (a b : Host) (before after : Scene K) (made : Result End Cut) → made ≡ unwrap_or (stop_of stop) (Err TurnsOver) → IsLed calls most (turns_of ways a b (Some stop)) before after
    → AreTurns most (looking own (core a) (core b) (Some made)) before.line after.line
never_unkept ways own core is calls never most (Ended end) a b before after made m l =
    subst (λ s. AreTurns most (looking own (core a) (core b) (Some s)) before.line after.line) (sym m) (are_turns ways own core is calls most (Ended end) a b before after l)
never_unkept ways own core is calls never most (CutOff cut) a b before after made m l =
    subst (λ s. AreTurns most (looking own (core a) (core b) (Some s)) before.line after.line) (sym m) (are_turns ways own core is calls most (CutOff cut) a b before after l)
never_unkept ways own core is calls never most (KeepFailed fault) a b before after made m l =
    let k = l.keeper.kept_by in
    absurd (never k.next k.last after.keeper k.failing)
