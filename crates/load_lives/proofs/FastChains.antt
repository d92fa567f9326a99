-- Lives one after another: what each leaves for the next.
use Rattle.std.proofs.Common.{◌≡◌, ℕ, ◌+◌, ◌^◌, ◌<◌, ◌≤◌, ◌⊎◌, Bool, true, false, List, [], ◌∷◌, ◌++◌, length, Option, Some, None, inl, inr, refl, arith, ap, sym, subst, ◌∙◌, append-nil, append_assoc}
use Rattle.std.specs.Prelude.{Ok, Contains, IsSome, option_to_list}
use Rattle.std.proofs.lemmas.List.Elements.{Contains-append_left, Contains-append_right, Contains-append_cases}
use Rattle.tape_image.specs.Plan.{PlanValue, IsPlan}
use Rattle.host_core.specs.declared.heard.Heard.{Heard}
use Rattle.host_core.specs.declared.phase.Phase.{Phase}
use Rattle.host_core.specs.declared.progress.Progress.{Progress}
use Rattle.host_core.specs.Console.{go}
use Rattle.host_core.specs.Core.{Core, begun}
use Rattle.host_core.specs.Host.{IsHost, MarkFits}
use Rattle.host_core.specs.Laws.{led}
use Rattle.host_core.specs.PhaseTable.{move}
use Rattle.host_core.proofs.Frame.{silent}
use Rattle.host_core.proofs.Lives.{led_kept, led_plan}
use Rattle.host_core.proofs.Starts.{starts_only_whole}
use Rattle.host_core.proofs.Turns.{begun_kept}
use Rattle.honest_line.specs.Starts.{RunsByGo}
use Rattle.line_world.specs.Promises.{EndsAtGo}
use Rattle.line_world.specs.Safe.{FirstStand}
use Rattle.line_world.proofs.Starts.{ends_join}
use Rattle.host_devices.specs.declared.item.Item.{Item}
use Rattle.host_devices.specs.declared.item.Item.TheVariants.{Sent, Heard as Came}
use Rattle.host_devices.specs.Dialogue.{dialogue, keys_of, said}
use Rattle.honest_line.proofs.Trusted.{ends_front, keys_of-dialogue}
use Rattle.load_engine.proofs.News.{led_forward}
use Rattle.load_engine.proofs.Sessions.{keys_join}
use Rattle.load_record.specs.declared.version.Version.TheVariants.{Second}
use Rattle.load_record.specs.Law.{SaysAtMost}
use Rattle.load_record.specs.Reading.{Says}
use Rattle.load_record.specs.RecordText.{record_text}
use Rattle.load_record.proofs.RecordLaws.{front_read, record_made, record_short}
use Rattle.load_record.proofs.Sound.{IsSound, sound-accepted}
use Rattle.load_lives.specs.Lives.{IsLeft}
use Rattle.load_lives.proofs.Chains.{last_key}
use Rattle.load_lives.proofs.LastTurns.{mark_verifies_none}
use Rattle.load_lives.proofs.Records.{Remains, remains, said_whole, says_once, says_sound}
use Rattle.host_core.specs.declared.heard.Heard.TheVariants.{Got, Quiet}
use Rattle.host_core.specs.declared.phase.End.TheVariants.{MaybeStarted}
use Rattle.host_core.specs.declared.phase.Phase.TheVariants.{Ended}
use Rattle.odt_machine.specs.Laws.{is_running}
use Rattle.odt_machine.specs.declared.mode.Mode.{Mode}
use Rattle.exchange_law.specs.Law.{said_all}
use Rattle.exchange_law.specs.Line.{Link, Passes}
use Rattle.exchange_law.specs.Station.{Each, Program, Station, Stub}
use Rattle.exchange_law.specs.Unsettled.{IsForStub, MayFill}
use Rattle.exchange_law.proofs.Passing.{losses_aside}
use Rattle.exchange_law.specs.Recovery.{IsLater, IsPaid}
use Rattle.exchange_law.specs.Start.{program as stub_program}
use Rattle.load_lives.specs.Between.{Between, KeepsOutside}
use Rattle.load_lives.specs.FastLives.{AreFastTrusted, AreFastLives, FastLife, FastLivesAreTrusted, IsFastLife, IsLatestPaid, LinkAndRecord, MayOpenAt, PassesAt, ReopensAt, StopsBehindStubs, StopsWithStubs, last_core, typed}
use Rattle.load_lives.specs.FastLoads.{IsLoadedOn}
use Rattle.load_lives.specs.StubParts.{ArePlain, AreStubParts, stubs_said, verified_by}
use Rattle.load_lives.proofs.Backs.{back}
use Rattle.load_lives.proofs.Calm.{IsIdle, Rested, StaysRested, all_in_order, between_passes, idle_behind, kept_on, rested_passes, stands_on}
use Rattle.load_lives.proofs.Going.{loaded_by}
use Rattle.load_lives.proofs.Growing.{between_fewer, between_reopened, parts_grow, parts_within, station_reopened, unsettled_reopened}
use Rattle.load_lives.proofs.Loads.{any_load}
use Rattle.load_lives.proofs.Storing.{fewer_stand}

-- ---- what the lives so far leave, which sent these keys

pub record Stood (program : Program) (tape : PlanValue) (before keys : List ℕ) (now : LinkAndRecord) : Type 0 where
  pub progress : Progress
  pub says : Says tape now.text (Ok progress)
  pub stand : FirstStand tape.words progress.verified now.link.machine.odt.memory
  pub kept : KeepsOutside before tape.image now.link.machine.odt.memory
  pub last : EndsAtGo keys
  pub marked : Contains keys go → progress.going ≡ true
  pub all : progress.going ≡ true → FirstStand tape.words (length tape.words) now.link.machine.odt.memory
  pub rested : progress.going ≡ true → Rested program tape keys now.link
  pub next : progress.going ≡ false → Between program tape progress.verified before now.link

not_both : (b : Bool) → b ≡ true → b ≡ false → ⊥
not_both b e f = cc

-- one more life
pub record Went (program : Program) (tape : PlanValue) (before keys : List ℕ) (life : FastLife) (new : LinkAndRecord) : Type 0 where
  pub stood : Stood program tape before (keys ++ keys_of life.rest) new
  pub paid : IsPaid (last_core tape life) new.link.machine.odt.memory (length life.unsent + new.link.lost + 1)

-- ---- a life that sends nothing and leaves the record alone

rested_reopened : (program : Program) (tape : PlanValue) (keys : List ℕ) (left found : Link) → ReopensAt left found → Rested program tape keys left → Rested program tape keys found
rested_reopened program tape keys left found reopens (inl u) = inl (unsettled_reopened program (IsLater tape (length tape.words)) left found reopens u)
rested_reopened program tape keys left found (inl same) (inr (has, idle)) = inr (
  has,
  subst (IsIdle program (IsLater tape (length tape.words))) (sym same) (elim idle [
    | inl none ↦ inl none
    | inr last ↦ inr (record { key = last.key; down = last.down; none = last.none; untouched = last.untouched })
  ]),
)
rested_reopened program tape keys left found (inr (waiting, new)) (inr (has, idle)) = inr (has, subst (IsIdle program (IsLater tape (length tape.words))) (sym new) (inl refl))

stood_quiet : (program : Program) (tape : PlanValue) (before keys : List ℕ) (old : LinkAndRecord) (items : List Item) (new : LinkAndRecord) → IsPlan tape → Stood program tape before keys old → PassesAt program old.link items new.link → keys_of items ≡ [] → new.text ≡ old.text →
    Stood program tape before keys new
stood_quiet program tape before keys old items new is s line none same = by s.progress.going refl
  where
    says : Says tape new.text (Ok s.progress)
    says = subst (λ text. Says tape text (Ok s.progress)) (sym same) s.says

    within : s.progress.verified ≤ length tape.words
    within = (says_sound tape old.text s.progress s.says).within

    station : line.found.machine ≡ old.link.machine
    station = station_reopened old.link line.found line.reopens

    by : (test : Bool) → s.progress.going ≡ test → Stood program tape before keys new
    by false e =
        let b : Between program tape s.progress.verified before new.link =
        between_passes program tape s.progress.verified before items line.found new.link is within none (between_reopened program tape s.progress.verified before old.link line.found line.reopens (s.next e)) line.passes in record {
          progress = s.progress;
          says = says;
          stand = b.stand;
          kept = b.kept;
          last = s.last;
          marked = s.marked;
          all = λ set. absurd (not_both s.progress.going set e);
          rested = λ set. absurd (not_both s.progress.going set e);
          next = λ _. b;
        }
    by true e =
        let r : StaysRested program tape keys line.found new.link = rested_passes program tape keys items line.found new.link none (rested_reopened program tape keys old.link line.found line.reopens (s.rested e)) line.passes in
        let all : FirstStand tape.words (length tape.words) new.link.machine.odt.memory =
        stands_on tape (length tape.words) line.found.machine.odt.memory new.link.machine.odt.memory is (omega arith) r.untouched (subst (λ (st : Station). FirstStand tape.words (length tape.words) st.odt.memory) (sym station) (s.all e)) in record {
          progress = s.progress;
          says = says;
          stand = fewer_stand tape.words s.progress.verified (length tape.words) new.link.machine.odt.memory within all;
          kept = kept_on tape (length tape.words) before line.found.machine.odt.memory new.link.machine.odt.memory r.untouched (subst (λ (st : Station). KeepsOutside before tape.image st.odt.memory) (sym station) s.kept);
          last = s.last;
          marked = s.marked;
          all = λ _. all;
          rested = λ _. r.rested;
          next = λ unset. absurd (not_both s.progress.going e unset);
        }

-- ---- lists

none_front : (xs ys : List ℕ) → xs ++ ys ≡ [] → xs ≡ []
none_front [] ys e = refl
none_front (x ∷ xs) ys e = absurd (cc e)

none_back : (xs ys : List ℕ) → xs ++ ys ≡ [] → ys ≡ []
none_back [] ys e = e
none_back (x ∷ xs) ys e = absurd (cc e)

no_items : (front : List Item) (keys : List ℕ) → [] ≡ front ++ said_all keys → front ≡ []
no_items [] keys e = refl
no_items (item ∷ front) keys e = absurd (cc e)

said_option : (key : Option ℕ) → said key ≡ said_all (option_to_list key)
said_option None = refl
said_option (Some key) = refl

none_contained : (key : ℕ) → Contains [] key → ⊥
none_contained key h = let low = h.1 in absurd (omega (arith, low))

-- ---- a life over a record with the mark

stays : (core : Core) (things : List Heard) → led (record core { phase = Ended MaybeStarted }) things ≡ record core { phase = Ended MaybeStarted }
stays core [] = refl
stays core (Got c ∷ things) = stays core things
stays core (Quiet ∷ things) = stays core things

says_nothing : (core : Core) (things : List Heard) → keys_of (dialogue (record core { phase = Ended MaybeStarted }) things) ≡ []
says_nothing core [] = refl
says_nothing core (Got c ∷ things) = says_nothing core things
says_nothing core (Quiet ∷ things) = says_nothing core things

-- the life with this mark
abbrev marked_as : FastLife → Bool → FastLife
marked_as life going = record life { progress = record { verified = life.progress.verified; going = going } }

quiet_life : (tape : PlanValue) (life : FastLife) → life.stubs ≡ [] → StopsWithStubs tape (marked_as life true) ⊎ StopsBehindStubs tape (marked_as life true) → keys_of (life.front ++ life.rest) ≡ []
quiet_life tape life none (inl s) =
    let front : life.front ≡ [] = no_items life.front life.unsent (sym (ap (stubs_said tape life.progress.verified) none) ∙ s.front) in
    ap (λ list. keys_of (list ++ life.rest)) front ∙ ap keys_of s.unsaid
quiet_life tape life none (inr s) =
    let front : life.front ≡ [] = sym s.front ∙ ap (stubs_said tape life.progress.verified) none in
    let silent : keys_of (dialogue (begun tape (verified_by tape life.progress.verified life.stubs) true life.patience) life.heard) ≡ [] = says_nothing (begun tape (verified_by tape life.progress.verified life.stubs) true life.patience) life.heard in
    ap (λ list. keys_of (list ++ life.rest)) front ∙ none_front (keys_of life.rest) (keys_of (said s.key)) (sym (keys_join life.rest (said s.key)) ∙ (ap keys_of (sym s.rest) ∙ silent))

rest_none : (front rest : List Item) → keys_of (front ++ rest) ≡ [] → keys_of rest ≡ []
rest_none front rest none = none_back (keys_of front) (keys_of rest) (sym (keys_join front rest) ∙ none)

same_keys : (keys more : List ℕ) → more ≡ [] → keys ≡ keys ++ more
same_keys keys more none = sym (append-nil keys) ∙ ap (λ list. keys ++ list) (sym none)

went_marked : (program : Program) (tape : PlanValue) (before keys : List ℕ) (between : LinkAndRecord) (life : FastLife) (new : LinkAndRecord) → IsPlan tape → Stood program tape before keys between → IsFastLife program tape between (marked_as life true) new →
    Went program tape before keys (marked_as life true) new
went_marked program tape before keys between life new is s l =
    let none : keys_of (life.front ++ life.rest) ≡ [] = quiet_life tape life (l.alone refl) l.stops in
    let first : Core = begun tape (verified_by tape life.progress.verified life.stubs) true life.patience in record {
      stood = subst (λ list. Stood program tape before list new) (same_keys keys (keys_of life.rest) (rest_none life.front life.rest none))
          (stood_quiet program tape before keys between (life.front ++ life.rest) new is s l.line none (l.left.alone refl));
      paid = subst (λ core. IsPaid core new.link.machine.odt.memory (length life.unsent + new.link.lost + 1)) (sym (stays first life.heard)) (record { spent = omega arith; cause = tt });
    }

-- ---- the load of a life over a record without the mark

abbrev bare : PlanValue → FastLife → Core
bare tape life = begun tape (verified_by tape life.progress.verified life.stubs) false life.patience

-- what is known where such a life begins
record Opened (program : Program) (tape : PlanValue) (before : List ℕ) (life : FastLife) (x : Link) : Type 0 where
  pub plan : IsPlan tape
  pub within : life.progress.verified ≤ length tape.words
  pub patient : life.patience < 2 ^ 32
  pub stubs : AreStubParts program tape life.progress.verified life.stubs
  pub plain : ArePlain life.stubs
  pub begins : Between program tape life.progress.verified before x

-- what came of it, and of the keys that it sent behind its stubs
record Came' (program : Program) (tape : PlanValue) (before : List ℕ) (life : FastLife) (y : Link) : Type 0 where
  pub on : IsLoadedOn program tape before (led (bare tape life) life.heard) (keys_of (dialogue (bare tape life) life.heard)) (length life.unsent + y.lost) y
  pub sets : Contains (keys_of life.rest) go → (led (bare tape life) life.heard).going ≡ true
  pub last : EndsAtGo (keys_of life.rest)

load_of : (program : Program) (tape : PlanValue) (before : List ℕ) (life : FastLife) (x y : Link) → Opened program tape before life x → Passes program x (life.front ++ life.rest) y →
    stubs_said tape life.progress.verified life.stubs ++ dialogue (bare tape life) life.heard ≡ (life.front ++ life.rest) ++ said_all life.unsent →
    IsLoadedOn program tape before (led (bare tape life) life.heard) (keys_of (dialogue (bare tape life) life.heard)) (length life.unsent + y.lost) y
load_of program tape before life x y o passes all =
    any_load program tape before x y
    (record { verified = life.progress.verified; stubs = life.stubs; patience = life.patience; heard = life.heard; items = life.front ++ life.rest; unsent = life.unsent })
    (record { plan = o.plan; within = o.within; patient = o.patient; stubs = o.stubs; plain = o.plain; begins = o.begins; stopped = all; passes = passes })

came : (program : Program) (tape : PlanValue) (before : List ℕ) (life : FastLife) (x y : Link) → Opened program tape before life x → Passes program x (life.front ++ life.rest) y →
    StopsWithStubs tape (marked_as life false) ⊎ StopsBehindStubs tape (marked_as life false) → Came' program tape before life y
came program tape before life x y o passes (inl s) =
    let said_with : List Item = stubs_said tape life.progress.verified life.stubs in
    let all : said_with ++ dialogue (bare tape life) life.heard ≡ (life.front ++ life.rest) ++ said_all life.unsent =
    ap (λ things. said_with ++ dialogue (bare tape life) things) s.unheard ∙ (append-nil said_with ∙ (s.front ∙ ap (λ items. items ++ said_all life.unsent) (sym (append-nil life.front) ∙ ap (λ rest. life.front ++ rest) (sym s.unsaid)))) in record {
      on = load_of program tape before life x y o passes all;
      sets = λ h. absurd (none_contained go (subst (λ rest. Contains (keys_of rest) go) s.unsaid h));
      last = subst (λ rest. EndsAtGo (keys_of rest)) (sym s.unsaid) tt;
    }
came program tape before life x y o passes (inr s) =
    let all : stubs_said tape life.progress.verified life.stubs ++ dialogue (bare tape life) life.heard ≡ (life.front ++ life.rest) ++ said_all life.unsent =
    ap (λ items. items ++ dialogue (bare tape life) life.heard) s.front ∙ (ap (λ items. life.front ++ items) (s.rest ∙ ap (λ items. life.rest ++ items) (said_option s.key ∙ ap said_all (sym s.last)))
    ∙ sym (append_assoc life.front life.rest (said_all life.unsent))) in
    let t = load_of program tape before life x y o passes all in
    let keys : keys_of (dialogue (bare tape life) life.heard) ≡ keys_of life.rest ++ keys_of (said s.key) = ap keys_of s.rest ∙ keys_join life.rest (said s.key) in record {
      on = t;
      sets = λ h. t.marked (subst (λ list. Contains list go) (sym keys) (Contains-append_left (keys_of life.rest) (keys_of (said s.key)) go h));
      last = ends_front (keys_of life.rest) (keys_of (said s.key)) (subst EndsAtGo keys t.last);
    }

-- ---- what the record says then

has_start : (going : Bool) (start : Option ℕ) (phase : Phase) → MarkFits going start phase → going ≡ true → IsSome start
has_start true start phase m e = m.0
has_start false start phase m e = absurd (cc)

can_be_read : (tape : PlanValue) (k patience : ℕ) (things : List Heard) → IsHost (begun tape k false patience) → ((led (begun tape k false patience) things).going ≡ true → Contains (keys_of (dialogue (begun tape k false patience) things)) go) →
    IsSound tape (record { verified = (led (begun tape k false patience) things).verified; going = (led (begun tape k false patience) things).going })
can_be_read tape k patience things host types =
    let core : Core = led (begun tape k false patience) things in
    let kept : IsHost core = led_kept (begun tape k false patience) things host in
    let same : core.plan ≡ tape = led_plan (begun tape k false patience) things in record {
      within = subst (λ (p : PlanValue). core.verified ≤ length p.words) same kept.within;
      marked = λ set. (
        (starts_only_whole false tape k false patience host things (subst (λ keys. Contains keys go) (keys_of-dialogue things (begun tape k false patience)) (types set))).1,
        subst (λ (p : PlanValue). IsSome p.start) same (has_start core.going core.plan.start core.phase kept.mark set),
      );
    }

record Told (tape : PlanValue) (core : Core) (rest : List Item) (text : List ℕ) : Type 0 where
  pub progress : Progress
  pub says : Says tape text (Ok progress)
  pub few : progress.verified ≤ core.verified
  pub marked : progress.going ≡ true → core.going ≡ true
  pub sent : Contains (keys_of rest) go → progress.going ≡ true

-- the text goes on from as many words
told_same : (tape : PlanValue) (recorded begun : Progress) (core : Core) (rest : List Item) (old new : List ℕ) → IsPlan tape → begun.going ≡ recorded.going → begun.going ≡ false → IsSound tape (record { verified = core.verified; going = core.going }) →
    (Contains (keys_of rest) go → core.going ≡ true) → recorded.verified ≤ core.verified → Says tape old (Ok recorded) → IsLeft tape begun core rest old new → Told tape core rest new
told_same tape recorded begun core rest old new is mark unset sound sets grows says left =
    let r : Remains tape recorded begun core rest new = remains tape recorded begun core rest old new is mark (λ set. absurd (not_both begun.going set unset)) (λ _. sound) sets says left in record {
      progress = r.progress;
      says = r.says;
      few = less r.progress recorded r.from grows;
      marked = r.marked;
      sent = r.sent;
    }
  where
    less : (p q : Progress) → (p ≡ q) ⊎ (p.verified ≤ core.verified) → q.verified ≤ core.verified → p.verified ≤ core.verified
    less p q (inl same) le = subst (λ (r : Progress). r.verified ≤ core.verified) (sym same) le
    less p q (inr few) le = few

-- the text is a front of a new one
told_anew : (tape : PlanValue) (core : Core) (rest : List Item) (new missing : List ℕ) → IsPlan tape → IsSound tape (record { verified = core.verified; going = core.going }) → (Contains (keys_of rest) go → core.going ≡ true) →
    (Contains (keys_of rest) go → new ≡ record_text Second tape core.verified true) → new ++ missing ≡ record_text Second tape core.verified core.going → Told tape core rest new
told_anew tape core rest new missing is sound sets whole front =
    let few : SaysAtMost tape new core.verified core.going =
    front_read Second tape (record_text Second tape core.verified core.going) new missing core.verified core.going (record_short Second tape core.verified core.going is)
    (record_made Second tape core.verified core.going (sound-accepted tape (record { verified = core.verified; going = core.going }) sound)) front in record {
      progress = few.progress;
      says = few.says;
      few = few.few;
      marked = few.marked;
      sent = λ h. said_whole tape core new few.progress is (sets h) sound few.says (whole h);
    }

-- ---- the mark was set, and its `G` was never sent: the last turn is taken back

unset_before : (core : Core) (what : Heard) (key : ℕ) → IsHost core → (move core what).key ≡ Some key → core.going ≡ false
unset_before core what key host sends = by core.going refl
  where
    clash : (o : Option ℕ) → o ≡ None → o ≡ Some key → ⊥
    clash o e f = absurd (cc (sym e ∙ f))

    by : (test : Bool) → core.going ≡ test → core.going ≡ false
    by true e = absurd (clash (move core what).key (silent core what host e).key sends)
    by false e = e

taken_back : (program : Program) (tape : PlanValue) (before : List ℕ) (life : FastLife) (x y : Link) (few key : ℕ) → Opened program tape before life x → Passes program x (life.front ++ life.rest) y → stubs_said tape life.progress.verified life.stubs ≡ life.front →
    dialogue (bare tape life) life.heard ≡ life.rest ++ Sent key ∷ [] → IsHost (bare tape life) → (led (bare tape life) life.heard).going ≡ true → few ≤ (led (bare tape life) life.heard).verified → Between program tape few before y
taken_back program tape before life x y few key o passes all load host set le =
    let l = last_key (bare tape life) life.heard life.rest key load in
    let first : List Heard = l.0 in
    let core : Core = led (bare tape life) first in
    let unmarked : core.going ≡ false = unset_before core l.1 key (led_kept (bare tape life) first host) l.4 in
    let words : (led (bare tape life) life.heard).verified ≤ core.verified = mark_verifies_none core l.1 (led (bare tape life) life.heard) l.2 unmarked set in
    let items : List Item = life.front ++ dialogue (bare tape life) first in
    let parts : life.front ++ life.rest ≡ items ++ Came l.1 ∷ [] = ap (λ rest. life.front ++ rest) l.3 ∙ sym (append_assoc life.front (dialogue (bare tape life) first) (Came l.1 ∷ [])) in
    let gone = back program items l.1 x y (subst (λ list. Passes program x list y) parts passes) in
    let whole : stubs_said tape life.progress.verified life.stubs ++ dialogue (bare tape life) first ≡ items ++ [] = ap (λ front. front ++ dialogue (bare tape life) first) all ∙ sym (append-nil items) in
    let t = any_load program tape before x (record y { lost = gone.0 })
    (record { verified = life.progress.verified; stubs = life.stubs; patience = life.patience; heard = first; items = items; unsent = [] })
    (record { plan = o.plan; within = o.within; patient = o.patient; stubs = o.stubs; plain = o.plain; begins = o.begins; stopped = whole; passes = gone.1 }) in
    let n = t.next unmarked few (omega (arith, le, words)) in
    record { stand = n.stand; kept = n.kept; line = losses_aside program (IsLater tape few) y gone.0 n.line }

-- ---- a life over a record without the mark

-- where it stopped with the mark set: before its `G`, or behind it
record AtMark (program : Program) (tape : PlanValue) (before : List ℕ) (life : FastLife) (y : Link) : Type 0 where
  pub rested : (keys : List ℕ) → Rested program tape (keys ++ keys_of life.rest) y
  pub next : (Contains (keys_of life.rest) go → ⊥) → (few : ℕ) → few ≤ (led (bare tape life) life.heard).verified → Between program tape few before y

at_mark : (program : Program) (tape : PlanValue) (before : List ℕ) (life : FastLife) (x y : Link) → Opened program tape before life x → Passes program x (life.front ++ life.rest) y →
    StopsWithStubs tape (marked_as life false) ⊎ StopsBehindStubs tape (marked_as life false) → IsHost (bare tape life) → Came' program tape before life y → length tape.words ≤ (led (bare tape life) life.heard).verified →
    (led (bare tape life) life.heard).going ≡ true → AtMark program tape before life y
at_mark program tape before life x y o passes (inl s) host c whole set =
    absurd (none_contained go (subst (λ things. Contains (keys_of (dialogue (bare tape life) things)) go) s.unheard (c.on.typed set)))
at_mark program tape before life x y o passes (inr s) host c whole set = by s.key refl
  where
    core : Core
    core = led (bare tape life) life.heard

    idle : IsIdle program (IsLater tape (length tape.words)) y
    idle = subst (λ (p : PlanValue). IsIdle program (IsLater p (length p.words)) y) (led_plan (bare tape life) life.heard) (idle_behind program (led (bare tape life) life.heard) y (c.on.in_order set) set)

    by : (key : Option ℕ) → s.key ≡ key → AtMark program tape before life y
    by None e =
        let has : Contains (keys_of life.rest) go = subst (λ list. Contains list go) (ap keys_of (s.rest ∙ (ap (λ key. life.rest ++ said key) e ∙ append-nil life.rest))) (c.on.typed set) in record {
          rested = λ keys. inr (Contains-append_right keys (keys_of life.rest) go has, idle);
          next = λ never. absurd (never has);
        }
    by (Some key) e =
        let back_to : (few : ℕ) → few ≤ (led (bare tape life) life.heard).verified → Between program tape few before y =
        λ few le. taken_back program tape before life x y few key o passes s.front (s.rest ∙ ap (λ k. life.rest ++ said k) e) host set le in record {
          rested = λ keys. inl (back_to (length tape.words) whole).line;
          next = λ never. back_to;
        }

stood_told : (program : Program) (tape : PlanValue) (before keys : List ℕ) (life : FastLife) (x : Link) (new : LinkAndRecord) → Opened program tape before life x → Passes program x (life.front ++ life.rest) new.link →
    StopsWithStubs tape (marked_as life false) ⊎ StopsBehindStubs tape (marked_as life false) → IsHost (bare tape life) → EndsAtGo keys → (Contains keys go → ⊥) → Came' program tape before life new.link →
    Told tape (led (bare tape life) life.heard) life.rest new.text → Stood program tape before (keys ++ keys_of life.rest) new
stood_told program tape before keys life x new o passes stops host last never c r = record {
  progress = r.progress;
  says = r.says;
  stand = fewer_stand tape.words r.progress.verified (led (bare tape life) life.heard).verified new.link.machine.odt.memory r.few c.on.stand;
  kept = c.on.kept;
  last = ends_join keys (keys_of life.rest) last c.last (λ h. absurd (never h));
  marked = λ h. elim (Contains-append_cases keys (keys_of life.rest) go h) [ inl early ↦ absurd (never early) | inr now ↦ r.sent now ];
  all = λ set. subst (λ (p : PlanValue). FirstStand p.words (length p.words) new.link.machine.odt.memory) (led_plan (bare tape life) life.heard)
      (all_in_order program (led (bare tape life) life.heard) new.link (c.on.in_order (r.marked set)) (r.marked set));
  rested = λ set. (at (r.marked set)).rested keys;
  next = λ none. by (led (bare tape life) life.heard).going refl none;
}
  where
    core : Core
    core = led (bare tape life) life.heard

    at : (led (bare tape life) life.heard).going ≡ true → AtMark program tape before life new.link
    at set =
        let sound = can_be_read tape (verified_by tape life.progress.verified life.stubs) life.patience life.heard host c.on.typed in
        let whole = (sound.marked set).0 in
        at_mark program tape before life x new.link o passes stops host c (omega (arith, whole)) set

    by : (test : Bool) → (led (bare tape life) life.heard).going ≡ test → r.progress.going ≡ false → Between program tape r.progress.verified before new.link
    by false e none = c.on.next e r.progress.verified r.few
    by true e none = (at e).next (λ h. not_both r.progress.going (r.sent h) none) r.progress.verified r.few

went_unmarked : (program : Program) (tape : PlanValue) (before keys : List ℕ) (between : LinkAndRecord) (life : FastLife) (new : LinkAndRecord) → IsPlan tape → Stood program tape before keys between → IsFastLife program tape between (marked_as life false) new →
    Went program tape before keys (marked_as life false) new
went_unmarked program tape before keys between life new is s l =
    let recorded : Progress = l.goes_on.recorded in
    let same : s.progress ≡ recorded = says_once tape between.text s.progress recorded s.says l.goes_on.says in
    let unset : s.progress.going ≡ false = ap (λ (p : Progress). p.going) same ∙ sym l.goes_on.same_mark in
    let sound : IsSound tape recorded = says_sound tape between.text recorded l.goes_on.says in
    let fewer : life.progress.verified ≤ s.progress.verified = subst (λ (p : Progress). life.progress.verified ≤ p.verified) (sym same) l.goes_on.fewer in
    let within : life.progress.verified ≤ length tape.words = let a = l.goes_on.fewer in let b = sound.within in omega (arith, a, b) in
    let o : Opened program tape before life l.line.found = record {
      plan = is;
      within = within;
      patient = l.patient;
      stubs = l.stubs;
      plain = l.plain;
      begins = between_reopened program tape life.progress.verified before between.link l.line.found l.line.reopens (between_fewer program tape life.progress.verified s.progress.verified before between.link fewer (s.next unset));
    } in
    let c : Came' program tape before life new.link = came program tape before life l.line.found new.link o l.line.passes l.stops in
    let host : IsHost (bare tape life) = begun_kept tape (verified_by tape life.progress.verified life.stubs) false life.patience is (parts_within program tape life.progress.verified life.stubs within l.stubs) l.patient (λ set. absurd (cc set)) in
    let grow = parts_grow program tape life.progress.verified life.stubs within l.stubs in
    let more : verified_by tape life.progress.verified life.stubs ≤ (led (bare tape life) life.heard).verified = (led_forward (bare tape life) life.heard host).verified in
    let readable = can_be_read tape (verified_by tape life.progress.verified life.stubs) life.patience life.heard host c.on.typed in
    let never : (Contains keys go → ⊥) = λ h. not_both s.progress.going (s.marked h) unset in
    let told : Told tape (led (bare tape life) life.heard) life.rest new.text → Stood program tape before (keys ++ keys_of life.rest) new =
    λ r. stood_told program tape before keys life l.line.found new o l.line.passes l.stops host s.last never c r in record {
      stood = elim (l.renews refl) [
        | inl as_many ↦ told (told_same tape recorded (record { verified = life.progress.verified; going = false }) (led (bare tape life) life.heard) life.rest between.text new.text is l.goes_on.same_mark refl readable c.sets
            (omega (arith, as_many, grow, more)) l.goes_on.says l.left)
        | inr (inl (none, alone)) ↦ subst (λ list. Stood program tape before list new) (same_keys keys (keys_of life.rest) (rest_none life.front life.rest none))
            (stood_quiet program tape before keys between (life.front ++ life.rest) new is s l.line none alone)
        | inr (inr (missing, front)) ↦ told (told_anew tape (led (bare tape life) life.heard) life.rest new.text missing is readable c.sets l.left.whole front)
      ];
      paid = c.on.paid;
    }

-- ---- any life

same_life : (life : FastLife) (going : Bool) → life.progress.going ≡ going → life ≡ marked_as life going
same_life life going e = ap (marked_as life) e

pub went : (program : Program) (tape : PlanValue) (before keys : List ℕ) (between : LinkAndRecord) (life : FastLife) (new : LinkAndRecord) → IsPlan tape → Stood program tape before keys between → IsFastLife program tape between life new →
    Went program tape before keys life new
went program tape before keys between life new is s l = by life.progress.going refl
  where
    by : (test : Bool) → life.progress.going ≡ test → Went program tape before keys life new
    by true e = subst (λ one. Went program tape before keys one new) (sym (same_life life true e))
        (went_marked program tape before keys between life new is s (subst (λ one. IsFastLife program tape between one new) (same_life life true e) l))
    by false e = subst (λ one. Went program tape before keys one new) (sym (same_life life false e))
        (went_unmarked program tape before keys between life new is s (subst (λ one. IsFastLife program tape between one new) (same_life life false e) l))

-- ---- all lives

stood : (program : Program) (tape : PlanValue) (before : List ℕ) (lives : List FastLife) (old new : LinkAndRecord) → IsPlan tape → Stood program tape before [] old → AreFastLives program tape old lives new → Stood program tape before (typed lives) new
stood program tape before [] old new is s same = subst (Stood program tape before []) (sym same) s
stood program tape before (life ∷ earlier) old new is s lived = (went program tape before (typed earlier) lived.0 life new is (stood program tape before earlier old lived.0 is s lived.1) lived.2).stood

latest : (program : Program) (tape : PlanValue) (before : List ℕ) (lives : List FastLife) (old new : LinkAndRecord) → IsPlan tape → Stood program tape before [] old → AreFastLives program tape old lives new → IsLatestPaid tape lives new.link
latest program tape before [] old new is s lived = tt
latest program tape before (life ∷ earlier) old new is s lived = (went program tape before (typed earlier) lived.0 life new is (stood program tape before earlier old lived.0 is s lived.1) lived.2).paid

pub opens : (program : Program) (tape : PlanValue) (old : LinkAndRecord) → MayOpenAt tape old → Stood program tape old.link.machine.odt.memory [] old
opens program tape old may = record {
  progress = may.progress;
  says = may.says;
  stand = may.stand;
  kept = record { size = refl; bytes = λ b low none. refl };
  last = tt;
  marked = λ h. absurd (none_contained go h);
  all = λ set. absurd (not_both may.progress.going set may.no_mark);
  rested = λ set. absurd (not_both may.progress.going set may.no_mark);
  next = λ unset. record {
    stand = may.stand;
    kept = record { size = refl; bytes = λ b low none. refl };
    line = record { console = may.console; stub = subst (λ stub. MayFill (IsLater tape may.progress.verified) old.link.machine.odt.mode stub) (sym may.no_stub) may.stopped; down = inl (subst (Each IsForStub) (sym may.none_down) tt) };
  };
}

-- where no stub runs no program does
still : (R : ℕ → Type 0) (mode : Mode) (stub : Option Stub) → MayFill R mode stub → stub ≡ None → is_running mode ≡ true → ⊥
still R mode stub may none runs = not_both (is_running mode) runs (subst (MayFill R mode) none may)

-- a program that is no stub was started by `G`
started : (program : Program) (tape : PlanValue) (before keys : List ℕ) (new : LinkAndRecord) → Stood program tape before keys new → new.link.machine.stub ≡ None → RunsByGo new.link.machine.odt keys
started program tape before keys new s none runs = by s.progress.going refl
  where
    by : (test : Bool) → s.progress.going ≡ test → Contains keys go
    by false e = absurd (still (IsLater tape s.progress.verified) new.link.machine.odt.mode new.link.machine.stub (s.next e).line.stub none runs)
    by true e = elim (s.rested e) [
      | inl u ↦ absurd (still (IsLater tape (length tape.words)) new.link.machine.odt.mode new.link.machine.stub u.stub none runs)
      | inr (has, idle) ↦ has
    ]

-- what stands may be trusted
pub trusted : (program : Program) (tape : PlanValue) (before keys : List ℕ) (now : LinkAndRecord) → IsPlan tape → Stood program tape before keys now → AreFastTrusted program tape before keys now
trusted program tape before keys now is s = record {
  progress = s.progress;
  says = s.says;
  stand = s.stand;
  kept = s.kept;
  last = s.last;
  marked = s.marked;
  loaded = λ set. loaded_by tape before now.link.machine.odt.memory is s.kept (s.all set);
  unsettled = λ unset. (s.next unset).line;
  by_go = started program tape before keys now s;
}

any_lives : (program : Program) (tape : PlanValue) (old new : LinkAndRecord) (lives : List FastLife) → IsPlan tape → MayOpenAt tape old → AreFastLives program tape old lives new →
    AreFastTrusted program tape old.link.machine.odt.memory (typed lives) new × IsLatestPaid tape lives new.link
any_lives program tape old new lives is may lived =
    let first = opens program tape old may in (
      trusted program tape old.link.machine.odt.memory (typed lives) new is (stood program tape old.link.machine.odt.memory lives old new is first lived),
      latest program tape old.link.machine.odt.memory lives old new is first lived,
    )

pub fast_lives_are_trusted : FastLivesAreTrusted
fast_lives_are_trusted tape old new lives is may lived = any_lives stub_program tape old new lives is may lived
