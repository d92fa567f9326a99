-- One stub's part of a load.
use Rattle.std.proofs.Common.{◌≡◌, ℕ, ◌+◌, ◌^◌, ◌<◌, ◌≤◌, Bool, true, false, List, [], ◌∷◌, ◌++◌, length, Option, Some, None, inl, inr, refl, arith, ap, sym, subst, ◌∙◌, append_assoc, append-nil}
use Rattle.std.specs.Prelude.{◌==◌, if◌then◌else◌}
use Rattle.std.proofs.lemmas.Bool.{eqb-true, eq-eqb, cases_eq}
use Rattle.tape_image.specs.Memory.{most_words}
use Rattle.tape_image.specs.Plan.{PlanValue}
use Rattle.host_core.specs.declared.phase.End.{End}
use Rattle.host_core.specs.declared.phase.End.TheVariants.{Loaded, Started, Uncertain, MaybeStarted, GaveUp, NoWord, WontHold}
use Rattle.host_core.specs.declared.phase.Phase.{Phase}
use Rattle.host_core.specs.declared.phase.Phase.TheVariants.{Settle, Sync, Address, Slash, Before, Value, Deposit, Return, Start, Go, Ended as PhaseEnded}
use Rattle.host_core.specs.Core.{Core, ended}
use Rattle.host_core.specs.Laws.{led}
use Rattle.host_devices.specs.declared.item.Item.{Item}
use Rattle.host_devices.specs.declared.item.Kept.{Kept}
use Rattle.host_devices.specs.Devices.{Devices}
use Rattle.host_devices.specs.Dialogue.{dialogue}
use Rattle.host_devices.specs.Turns.{most_turns}
use Rattle.host_devices.proofs.Told.{gains_join, gains_none}
use Rattle.load_engine.specs.Driving.{LoadSession, LoadStop, driving}
use Rattle.engine.specs.declared.stop.Cut.TheVariants.{LineFailed, TurnsOver}
use Rattle.engine.specs.declared.stop.Stop.TheVariants.{Ended, KeepFailed, CutOff}
use Rattle.engine.specs.Session.{SessionTold, session_told}
use Rattle.engine.specs.Stopping.{TellsEnd, keep_fault, line_fault}
use Rattle.load_engine.specs.Driven.{IsSaid as IsLoadSaid}
use Rattle.load_engine.proofs.Sessions.{core_is, session_said}
use Rattle.exchange_core.specs.declared.chunk.Chunk.{Chunk}
use Rattle.exchange_core.specs.declared.duplex.Duplex.{Duplex}
use Rattle.exchange_core.specs.declared.exchange.Exchange.{Exchange}
use Rattle.exchange_core.specs.Chunk.{AreChunks, words_behind}
use Rattle.exchange_core.specs.Exchange.{begun as exchange_begun, led as exchange_led}
use Rattle.exchange_law.specs.Law.{dialogue as exchange_dialogue, said_all}
use Rattle.exchange_law.proofs.Words.{words_within}
use Rattle.stub_engine.specs.Exchanged.{IsCarriedOut, IsSaid}
use Rattle.stub_engine.specs.Exchanging.{ExchangeStop, exchanging}
use Rattle.exchange_law.specs.Start.{program as stub_program}
use Rattle.load_lives.specs.StubParts.{IsStubFor, StubPart, bringer, is_started, starts, verified_after, exchange_said}
use Rattle.load_lives.proofs.Planning.{planned_stubs}
use Rattle.stub_engine.specs.declared.tally.Tally.{Tally}
use Rattle.stub_engine.specs.declared.typist.Typist.{Typist}
use Rattle.stub_engine.specs.Parts.{AreBroughtIn, IsTypedBy, IsWorth, StubsStop, bringing, TellsEnd as EndsSo, typist_of, why_ended, why_left, why_unstarted}
use Rattle.stub_engine.specs.Planning.{IsPlannedFor}
use Rattle.stub_engine.specs.Tallies.{IsOneMore, duplex_behind, with_counts, with_words}
use Rattle.stub_engine.proofs.Stops.{is_some}

same_if : {A : Type 0} (test : Bool) (a : A) → (if test then a else a) ≡ a
same_if {A} true a = refl
same_if {A} false a = refl

-- no stub at all
pub none_brought : (tape : PlanValue) (typist : Typist) (stop : Option StubsStop) (tally : Tally) (line : Option (List Item)) → EndsSo stop [] → AreBroughtIn (bringing tape typist (tally, tally) stop) line line
none_brought tape typist stop tally line ends = record {
  parts = [];
  are_parts = tt;
  worth = tt;
  followed = tt;
  all_start = λ none. tt;
  ends = ends;
  said = [];
  unsent = [];
  items = refl;
  all_sent = λ line keep. refl;
  on_line = gains_none line;
  verified = refl;
  sent = omega arith;
  spent = omega arith;
  in_vain = refl;
}

for_stub : (tape : PlanValue) (from : ℕ) (stub : PlanValue) (chunks : List Chunk) → IsPlannedFor tape from stub chunks → IsStubFor stub_program tape from stub chunks
for_stub tape from stub chunks p = planned_stubs tape from p.window chunks p.stretches stub p.planned

is_worth : (tape : PlanValue) (typist : Typist) (from n : ℕ) (part : StubPart) → IsPlannedFor tape from part.stub part.chunks → n < 3 → IsTypedBy typist part → part.duplex ≡ duplex_behind n → IsWorth typist from n part
is_worth tape typist from n part p few typed duplex = record { typed = typed; few = few; duplex = duplex; words = (let all = p.planned.chunks_are.all in let worth = p.worth in omega (arith, all, worth)) }

-- ---- what was said, up to what was not sent

-- a front of what was to be said, and all of it where no device failed
record IsFront (stop : Option StubsStop) (all said : List Item) : Type 0 where
  pub unsent : List ℕ
  pub is : all ≡ said ++ said_all unsent
  pub whole : line_fault stop ≡ None → keep_fault stop ≡ None → unsent ≡ []

full : (stop : Option StubsStop) (all said : List Item) → said ≡ all → IsFront stop all said
full stop all said s = record { unsent = []; is = sym s ∙ sym (append-nil said); whole = λ line keep. refl }

brought_front : (stop : LoadStop) (all said : List Item) → IsLoadSaid (Some stop) all said → IsFront (why_unstarted stop) all said
brought_front (Ended end) all said s = full (why_ended end) all said s
brought_front (CutOff TurnsOver) all said s = full (Some (CutOff TurnsOver)) all said s
brought_front (CutOff (LineFailed fault)) all said (inl deaf) = full (Some (CutOff (LineFailed fault))) all said deaf
brought_front (CutOff (LineFailed fault)) all said (inr less) = record { unsent = less.0 ∷ []; is = less.1; whole = λ line keep. absurd (is_some _ line) }
brought_front (KeepFailed fault) all said s = record { unsent = s.0 ∷ []; is = s.1; whole = λ line keep. absurd (is_some _ keep) }

exchange_front : (stop : ExchangeStop) (all said : List Item) → IsSaid (Some stop) all said → IsFront (why_left stop) all said
exchange_front (Ended end) all said s = full None all said s
exchange_front (CutOff TurnsOver) all said s = full (Some (CutOff TurnsOver)) all said s
exchange_front (CutOff (LineFailed fault)) all said s = record { unsent = s.0; is = s.1; whole = λ line keep. absurd (is_some _ line) }
exchange_front (KeepFailed fault) all said s = record { unsent = s.0; is = s.1; whole = λ line keep. absurd (is_some _ keep) }

-- ---- a stub that did not start

ends_so : (stop : LoadStop) (part : StubPart) → TellsEnd stop (ended (led (bringer part) part.brought).phase) → EndsSo (why_unstarted stop) (part ∷ [])
ends_so (Ended Started) part tells = tt
ends_so (Ended Loaded) part tells = record { before = []; last = part; parts_are = refl; end_is = tells }
ends_so (Ended Uncertain) part tells = record { before = []; last = part; parts_are = refl; end_is = tells }
ends_so (Ended MaybeStarted) part tells = record { before = []; last = part; parts_are = refl; end_is = tells }
ends_so (Ended GaveUp) part tells = record { before = []; last = part; parts_are = refl; end_is = tells }
ends_so (Ended (NoWord address)) part tells = record { before = []; last = part; parts_are = refl; end_is = tells }
ends_so (Ended (WontHold address)) part tells = record { before = []; last = part; parts_are = refl; end_is = tells }
ends_so (KeepFailed fault) part tells = tt
ends_so (CutOff cut) part tells = tt

left_ends : (left : ExchangeStop) (parts : List StubPart) → EndsSo (why_left left) parts
left_ends (Ended end) parts = tt
left_ends (KeepFailed fault) parts = tt
left_ends (CutOff cut) parts = tt

only_started : (stop : LoadStop) → why_unstarted stop ≡ None → stop ≡ Ended Started
only_started (Ended Started) follows = refl
only_started (Ended Loaded) follows = absurd (is_some _ follows)
only_started (Ended Uncertain) follows = absurd (is_some _ follows)
only_started (Ended MaybeStarted) follows = absurd (is_some _ follows)
only_started (Ended GaveUp) follows = absurd (is_some _ follows)
only_started (Ended (NoWord address)) follows = absurd (is_some _ follows)
only_started (Ended (WontHold address)) follows = absurd (is_some _ follows)
only_started (KeepFailed fault) follows = absurd (is_some _ follows)
only_started (CutOff cut) follows = absurd (is_some _ follows)

-- an end is the phase's
is_end : (phase : Phase) (end : End) → ended phase ≡ Some end → phase ≡ PhaseEnded end
is_end (PhaseEnded end) other e = let same : end ≡ other = cc e in ap PhaseEnded same
is_end Settle other e = absurd (cc e)
is_end (Sync place) other e = absurd (cc e)
is_end (Address visit place) other e = absurd (cc e)
is_end (Slash visit) other e = absurd (cc e)
is_end (Before visit) other e = absurd (cc e)
is_end (Value visit value place) other e = absurd (cc e)
is_end (Deposit deposit value place) other e = absurd (cc e)
is_end (Return why place) other e = absurd (cc e)
is_end (Start place) other e = absurd (cc e)
is_end Go other e = absurd (cc e)

seen : (stop : LoadStop) (core : Core) → why_unstarted stop ≡ None → TellsEnd stop (ended core.phase) → is_started core.phase ≡ true
seen stop core follows tells =
    let end : ended core.phase ≡ Some Started = subst (λ (stop : LoadStop). TellsEnd stop (ended core.phase)) (only_started stop follows) tells in
    ap is_started (is_end core.phase Started end)

sum_of : (old a b z : ℕ) → a ≡ b → z ≡ 0 → old + a ≡ old + (b + z + 0)
sum_of old a b z e none = omega (arith, e, none)

pub unstarted : (tape : PlanValue) (typist : Typist) (stop : LoadStop) (old : Tally) (stub : PlanValue) (chunks : List Chunk) (core : Core) (before after : SessionTold Kept) → IsPlannedFor tape old.verified stub chunks → typist.patience < 2 ^ 32 → old.in_vain < 3 → TellsEnd stop (ended core.phase) →
    LoadSession most_turns (driving (typist_of stub typist) core (Some stop)) before after → AreBroughtIn (bringing tape typist (old, with_words (with_counts old core.sent core.spent) old.verified) (why_unstarted stop)) before.said after.said
unstarted tape typist stop old stub chunks core before after planned patient few tells s =
    let part : StubPart = record { stub = stub; chunks = chunks; careful = typist.careful; patience = typist.patience; duplex = duplex_behind old.in_vain; brought = s.heard; exchanged = [] } in
    let turns = driving (typist_of stub typist) core (Some stop) in
    let at = core_is most_turns turns before after s in
    let front = brought_front stop (dialogue (typist_of stub typist) s.heard) s.said (session_said most_turns turns before after s) in
    let after : verified_after tape old.verified part ≡ old.verified = same_if (starts part) old.verified in
    let silent : exchange_said tape old.verified part ≡ [] = same_if (starts part) [] in record {
      parts = part ∷ [];
      are_parts = (for_stub tape old.verified stub chunks planned, patient, tt);
      worth = (is_worth tape typist old.verified old.in_vain part planned few (refl, refl) refl, tt);
      followed = (inl refl, tt);
      all_start = λ none. (ap (λ (c : Core). is_started c.phase) (sym at) ∙ seen stop core none tells, tt);
      ends = ends_so stop part (subst (λ (c : Core). TellsEnd stop (ended c.phase)) at tells);
      said = s.said;
      unsent = front.unsent;
      items = ap (λ rest. dialogue (typist_of stub typist) s.heard ++ (rest ++ [])) silent ∙ (append-nil (dialogue (typist_of stub typist) s.heard) ∙ front.is);
      all_sent = front.whole;
      on_line = s.on_line;
      verified = sym after;
      sent = sum_of old.sent core.sent (led (typist_of stub typist) s.heard).sent _ (ap (λ (c : Core). c.sent) at) (same_if (starts part) 0);
      spent = ap (λ n. old.spent + n) (ap (λ (c : Core). c.spent) at ∙ (let none : (n : ℕ) → n ≡ n + 0 = λ n. omega arith in none (led (typist_of stub typist) s.heard).spent));
      in_vain = ap (λ n. if n == old.verified then old.in_vain + 1 else 0) (sym after);
    }

-- ---- a stub that started

pub exchanged : (tape : PlanValue) (typist : Typist) (stop : LoadStop) (left : ExchangeStop) (old : Tally) (stub : PlanValue) (chunks : List Chunk) (core : Core) (state : Exchange) (before : SessionTold Kept) (kept : Option (List Kept)) (at after : Devices) →
    IsPlannedFor tape old.verified stub chunks → typist.patience < 2 ^ 32 → old.in_vain < 3 → why_unstarted stop ≡ None → TellsEnd stop (ended core.phase) → LoadSession most_turns (driving (typist_of stub typist) core (Some stop)) before (session_told at.line.said kept) →
    IsCarriedOut most_turns (exchanging tape chunks (exchange_begun old.verified (duplex_behind old.in_vain), state) (Some left)) at after →
    AreBroughtIn (bringing tape typist (old, with_words (with_counts (with_counts old core.sent core.spent) state.sent 0) state.verified) (why_left left)) before.said after.line.said
exchanged tape typist stop left old stub chunks core state before kept at after planned patient few follows tells s x =
    let part : StubPart = record { stub = stub; chunks = chunks; careful = typist.careful; patience = typist.patience; duplex = duplex_behind old.in_vain; brought = s.heard; exchanged = x.session.heard } in
    let first : Core = led (typist_of stub typist) s.heard in
    let now : Exchange = exchange_led tape.image chunks (exchange_begun old.verified (duplex_behind old.in_vain)) x.session.heard in
    let talk : List Item = dialogue (typist_of stub typist) s.heard in
    let more : List Item = exchange_dialogue tape.image chunks (exchange_begun old.verified (duplex_behind old.in_vain)) x.session.heard in
    let turns = driving (typist_of stub typist) core (Some stop) in
    let now_is = core_is most_turns turns before (session_told at.line.said kept) s in
    let started : starts part ≡ true = ap (λ (c : Core). is_started c.phase) (sym now_is) ∙ seen stop core follows tells in
    let typed = brought_front stop talk s.said (session_said most_turns turns before (session_told at.line.said kept) s) in
    let all : talk ≡ s.said = typed.is ∙ (ap (λ keys. s.said ++ said_all keys) (typed.whole (ap line_fault follows) (ap keep_fault follows)) ∙ append-nil s.said) in
    let front = exchange_front left more x.session.said x.said in
    let words_are : state.verified ≡ verified_after tape old.verified part = ap (λ (e : Exchange). e.verified) x.exchange ∙ ap (λ test. if test then now.verified else old.verified) (sym started) in
    let spoken : exchange_said tape old.verified part ≡ more = ap (λ test. if test then more else []) started in
    let keys : state.sent ≡ (if starts part then now.sent else 0) = ap (λ (e : Exchange). e.sent) x.exchange ∙ ap (λ test. if test then now.sent else 0) (sym started) in record {
      parts = part ∷ [];
      are_parts = (for_stub tape old.verified stub chunks planned, patient, tt);
      worth = (is_worth tape typist old.verified old.in_vain part planned few (refl, refl) refl, tt);
      followed = (inl refl, tt);
      all_start = λ none. (started, tt);
      ends = left_ends left (part ∷ []);
      said = s.said ++ x.session.said;
      unsent = front.unsent;
      items = ap (λ rest. talk ++ (rest ++ [])) spoken
          ∙ (ap (λ rest. talk ++ rest) (append-nil more ∙ front.is)
          ∙ (ap (λ list. list ++ (x.session.said ++ said_all front.unsent)) all ∙ sym (append_assoc s.said x.session.said (said_all front.unsent))));
      all_sent = front.whole;
      on_line = gains_join before.said at.line.said after.line.said s.said x.session.said s.on_line x.session.on_line;
      verified = words_are;
      sent = sums old.sent core.sent first.sent state.sent (if starts part then now.sent else 0) (ap (λ (c : Core). c.sent) now_is) keys;
      spent = counts old.spent core.spent first.spent (ap (λ (c : Core). c.spent) now_is);
      in_vain = ap (λ n. if n == old.verified then old.in_vain + 1 else 0) words_are;
    }
  where
    sums : (old a b c d : ℕ) → a ≡ b → c ≡ d → old + a + c ≡ old + (b + d + 0)
    sums old a b c d e f = omega (arith, e, f)

    counts : (old a b : ℕ) → a ≡ b → old + a + 0 ≡ old + (b + 0)
    counts old a b e = omega (arith, e)

-- ---- the tally

pub tally_unstarted : (old b r : Tally) (core : Core) (sent spent : ℕ) → sent ≡ core.sent → spent ≡ core.spent → b ≡ with_counts old sent spent → r ≡ with_words b old.verified → r ≡ with_words (with_counts old core.sent core.spent) old.verified
tally_unstarted old b r core sent spent s p counts words =
    words ∙ ap (λ tally. with_words tally old.verified) (counts ∙ (ap (λ n. with_counts old n spent) s ∙ ap (λ n. with_counts old core.sent n) p))

pub tally_exchanged : (old b d r : Tally) (core : Core) (state : Exchange) (sent spent keys : ℕ) → sent ≡ core.sent → spent ≡ core.spent → keys ≡ state.sent → b ≡ with_counts old sent spent → d ≡ with_counts b keys 0 → r ≡ with_words d state.verified →
    r ≡ with_words (with_counts (with_counts old core.sent core.spent) state.sent 0) state.verified
tally_exchanged old b d r core state sent spent keys s p k counts more words =
    words
    ∙ ap (λ tally. with_words tally state.verified)
    (more ∙ (ap (λ n. with_counts b n 0) k ∙ ap (λ tally. with_counts tally state.sent 0) (counts ∙ (ap (λ n. with_counts old n spent) s ∙ ap (λ n. with_counts old core.sent n) p))))

-- ---- how far an exchange comes

pub record Comes (tape : PlanValue) (v : ℕ) (state : Exchange) : Type 0 where
  pub more : v ≤ state.verified
  pub within : state.verified ≤ length tape.words
  pub few : state.verified ≤ most_words

pub comes : (tape : PlanValue) (v : ℕ) (duplex : Duplex) (stub : PlanValue) (chunks : List Chunk) (stop : ExchangeStop) (state : Exchange) (before after : Devices) → IsPlannedFor tape v stub chunks → IsCarriedOut most_turns (exchanging tape chunks (exchange_begun v duplex, state) (Some stop)) before after → Comes tape v state
comes tape v duplex stub chunks stop state before after p t =
    let are : AreChunks tape v chunks = p.planned.chunks_are.are in
    let words : state.verified ≡ words_behind v chunks state.done = t.kept.words ∙ ap (λ n. words_behind n chunks state.done) t.from_same in
    let high = words_within tape v chunks are state.done t.kept.within in
    let few = are.sound.few in record { more = t.grows; within = omega (arith, words, high); few = omega (arith, words, high, few) }

pub one_more : (old b : Tally) (v : ℕ) → b.verified ≡ old.verified → b.in_vain ≡ old.in_vain → old.verified ≤ v → IsOneMore old (with_words b v)
one_more old b v same vain le = by (v == b.verified) refl
  where
    differs : (v == b.verified) ≡ false → v ≡ b.verified → ⊥
    differs e is = absurd (cc (sym (eq-eqb v b.verified is) ∙ e))

    less : (a b : ℕ) → a ≤ b → (b ≡ a → ⊥) → a < b
    less a b le not = elim (cases_eq b a) [ inl same ↦ absurd (not same) | inr above ↦ omega (arith, above, le) ]

    by : (test : Bool) → (v == b.verified) ≡ test → IsOneMore old (record { verified = v; sent = b.sent; spent = b.spent; in_vain = if test then b.in_vain + 1 else 0 })
    by true e = inl (eqb-true v b.verified e ∙ same, ap (λ n. n + 1) vain)
    by false e = inr (less old.verified v le (λ is. differs e (is ∙ sym same)), refl)
