-- Stubs' parts one after another.
use Rattle.std.proofs.Common.{◌≡◌, ℕ, ◌+◌, List, [], ◌∷◌, ◌++◌, Option, Some, None, inr, refl, arith, ap, sym, subst, ◌∙◌, append_assoc, append-nil}
use Rattle.tape_image.specs.Plan.{PlanValue}
use Rattle.host_devices.specs.declared.item.Item.{Item}
use Rattle.host_devices.specs.Dialogue.{dialogue}
use Rattle.host_devices.proofs.Told.{gains_join}
use Rattle.host_core.specs.Laws.{led}
use Rattle.exchange_law.specs.Law.{said_all}
use Rattle.exchange_law.specs.Start.{program as stub_program}
use Rattle.load_lives.specs.StubParts.{AreStubParts, StubPart, bringer, exchange_said, stubs_said, verified_after, verified_by}
use Rattle.engine.specs.declared.stop.Stop.TheVariants.{Ended, KeepFailed, CutOff}
use Rattle.stub_engine.specs.declared.stop.StubsEnd.TheVariants.{TooFewWords, NoRoom, InVain, NotStarted, Memory}
use Rattle.stub_engine.specs.declared.tally.Tally.{Tally}
use Rattle.stub_engine.specs.declared.typist.Typist.{Typist}
use Rattle.stub_engine.specs.Parts.{AllStart, AreBroughtIn, AreFollowed, AreWorth, StubsStop, TellsEnd, bringing, in_vain_after, in_vain_by, sent_by, sent_in, spent_by}

verified_join : (tape : PlanValue) (v : ℕ) (parts more : List StubPart) → verified_by tape v (parts ++ more) ≡ verified_by tape (verified_by tape v parts) more
verified_join tape v [] more = refl
verified_join tape v (part ∷ parts) more = verified_join tape (verified_after tape v part) parts more

stubs_join : (tape : PlanValue) (v : ℕ) (parts more : List StubPart) → AreStubParts stub_program tape v parts → AreStubParts stub_program tape (verified_by tape v parts) more → AreStubParts stub_program tape v (parts ++ more)
stubs_join tape v [] more first rest = rest
stubs_join tape v (part ∷ parts) more first rest = (first.0, first.1, stubs_join tape (verified_after tape v part) parts more first.2 rest)

vain_join : (tape : PlanValue) (v n : ℕ) (parts more : List StubPart) → in_vain_by tape v n (parts ++ more) ≡ in_vain_by tape (verified_by tape v parts) (in_vain_by tape v n parts) more
vain_join tape v n [] more = refl
vain_join tape v n (part ∷ parts) more = vain_join tape (verified_after tape v part) (in_vain_after tape v n part) parts more

worth_join : (typist : Typist) (tape : PlanValue) (v n : ℕ) (parts more : List StubPart) → AreWorth typist tape v n parts → AreWorth typist tape (verified_by tape v parts) (in_vain_by tape v n parts) more → AreWorth typist tape v n (parts ++ more)
worth_join typist tape v n [] more first rest = rest
worth_join typist tape v n (part ∷ parts) more first rest = (first.0, worth_join typist tape (verified_after tape v part) (in_vain_after tape v n part) parts more first.1 rest)

follow_join : (parts more : List StubPart) → AllStart parts → AreFollowed more → AreFollowed (parts ++ more)
follow_join [] more start rest = rest
follow_join (part ∷ parts) more start rest = (inr start.0, follow_join parts more start.1 rest)

start_join : (parts more : List StubPart) → AllStart parts → AllStart more → AllStart (parts ++ more)
start_join [] more start rest = rest
start_join (part ∷ parts) more start rest = (start.0, start_join parts more start.1 rest)

ends_join : (stop : Option StubsStop) (parts more : List StubPart) → TellsEnd stop more → TellsEnd stop (parts ++ more)
ends_join None parts more ends = tt
ends_join (Some (Ended TooFewWords)) parts more ends = tt
ends_join (Some (Ended NoRoom)) parts more ends = tt
ends_join (Some (Ended InVain)) parts more ends = tt
ends_join (Some (Ended (NotStarted end))) parts more ends = record {
  before = parts ++ ends.before;
  last = ends.last;
  parts_are = ap (λ list. parts ++ list) ends.parts_are ∙ sym (append_assoc parts ends.before (ends.last ∷ []));
  end_is = ends.end_is;
}
ends_join (Some (CutOff cut)) parts more ends = tt
ends_join (Some (KeepFailed fault)) parts more ends = tt
ends_join (Some (Ended Memory)) parts more ends = tt

said_join : (tape : PlanValue) (v : ℕ) (parts more : List StubPart) → stubs_said tape v (parts ++ more) ≡ stubs_said tape v parts ++ stubs_said tape (verified_by tape v parts) more
said_join tape v [] more = refl
said_join tape v (part ∷ parts) more =
    let rest = stubs_said tape (verified_by tape (verified_after tape v part) parts) more in
    let own = stubs_said tape (verified_after tape v part) parts in
    let talk = dialogue (bringer part) part.brought in
    ap (λ list. talk ++ (exchange_said tape v part ++ list)) (said_join tape (verified_after tape v part) parts more)
    ∙ (ap (λ list. talk ++ list) (sym (append_assoc (exchange_said tape v part) own rest)) ∙ sym (append_assoc talk (exchange_said tape v part ++ own) rest))

sent_join : (tape : PlanValue) (v : ℕ) (parts more : List StubPart) → sent_by tape v (parts ++ more) ≡ sent_by tape v parts + sent_by tape (verified_by tape v parts) more
sent_join tape v [] more = omega arith
sent_join tape v (part ∷ parts) more =
    by (sent_in tape v part) (sent_by tape (verified_after tape v part) (parts ++ more)) (sent_by tape (verified_after tape v part) parts) (sent_by tape (verified_by tape (verified_after tape v part) parts) more)
    (sent_join tape (verified_after tape v part) parts more)
  where
    by : (one all a b : ℕ) → all ≡ a + b → one + all ≡ one + a + b
    by one all a b e = omega (arith, e)

spent_join : (parts more : List StubPart) → spent_by (parts ++ more) ≡ spent_by parts + spent_by more
spent_join [] more = omega arith
spent_join (part ∷ parts) more = by (led (bringer part) part.brought).spent (spent_by (parts ++ more)) (spent_by parts) (spent_by more) (spent_join parts more)
  where
    by : (one all a b : ℕ) → all ≡ a + b → one + all ≡ one + a + b
    by one all a b e = omega (arith, e)

sums : (a b c first rest all : ℕ) → b ≡ a + first → c ≡ b + rest → all ≡ first + rest → c ≡ a + all
sums a b c first rest all one two e = omega (arith, one, two, e)

pub brought_join : (tape : PlanValue) (typist : Typist) (stop : Option StubsStop) (a b c : Tally) (line line' line'' : Option (List Item)) → AreBroughtIn (bringing tape typist (a, b) None) line line' → AreBroughtIn (bringing tape typist (b, c) stop) line' line'' → AreBroughtIn (bringing tape typist (a, c) stop) line line''
brought_join tape typist stop a b c line line' line'' s t =
    let parts : List StubPart = s.parts ++ t.parts in
    let front : stubs_said tape a.verified s.parts ≡ s.said = s.items ∙ (ap (λ keys. s.said ++ said_all keys) (s.all_sent refl refl) ∙ append-nil s.said) in
    let here = s.verified in record {
      parts = s.parts ++ t.parts;
      are_parts = stubs_join tape a.verified s.parts t.parts s.are_parts (subst (λ v. AreStubParts stub_program tape v t.parts) here t.are_parts);
      worth = worth_join typist tape a.verified a.in_vain s.parts t.parts s.worth
          (subst (λ v. AreWorth typist tape v (in_vain_by tape a.verified a.in_vain s.parts) t.parts) here (subst (λ n. AreWorth typist tape b.verified n t.parts) s.in_vain t.worth));
      followed = follow_join s.parts t.parts (s.all_start refl) t.followed;
      all_start = λ none. start_join s.parts t.parts (s.all_start refl) (t.all_start none);
      ends = ends_join stop s.parts t.parts t.ends;
      said = s.said ++ t.said;
      unsent = t.unsent;
      items = said_join tape a.verified s.parts t.parts
          ∙ (ap (λ v. stubs_said tape a.verified s.parts ++ stubs_said tape v t.parts) (sym here)
          ∙ (ap (λ list. list ++ stubs_said tape b.verified t.parts) front
          ∙ (ap (λ list. s.said ++ list) t.items ∙ sym (append_assoc s.said t.said (said_all t.unsent)))));
      all_sent = t.all_sent;
      on_line = gains_join line line' line'' s.said t.said s.on_line t.on_line;
      verified = t.verified ∙ (ap (λ v. verified_by tape v t.parts) here ∙ sym (verified_join tape a.verified s.parts t.parts));
      sent = sums a.sent b.sent c.sent (sent_by tape a.verified s.parts) (sent_by tape b.verified t.parts) (sent_by tape a.verified (s.parts ++ t.parts)) s.sent t.sent
          (sent_join tape a.verified s.parts t.parts ∙ ap (λ v. sent_by tape a.verified s.parts + sent_by tape v t.parts) (sym here));
      spent = sums a.spent b.spent c.spent (spent_by s.parts) (spent_by t.parts) (spent_by (s.parts ++ t.parts)) s.spent t.spent (spent_join s.parts t.parts);
      in_vain = t.in_vain
          ∙ (ap (λ v. in_vain_by tape v b.in_vain t.parts) here
          ∙ (ap (λ n. in_vain_by tape (verified_by tape a.verified s.parts) n t.parts) s.in_vain ∙ sym (vain_join tape a.verified a.in_vain s.parts t.parts)));
    }
