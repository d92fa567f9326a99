-- What a keeper holds after the engine's calls.
use Rattle.std.proofs.Common.{◌≡◌, ℕ, zero, suc, ◌+◌, ◌-◌, ◌≤◌, Bool, true, false, List, [], ◌∷◌, ◌++◌, length, take, drop, map, Option, Some, None, inl, inr, refl, arith, ap, sym, subst, ◌∙◌, append-nil, append_assoc}
use Rattle.std.specs.Prelude.{Contains, option_to_list}
use Rattle.std.specs.List.{slice_get}
use Rattle.std.proofs.Math.Seq.{drop-drop}
use Rattle.std.proofs.lemmas.List.{length-take, length-drop, take-append-drop}
use Rattle.std.proofs.lemmas.List.Elements.{Contains-append_left, Contains-append_cases}
use Rattle.byte_io.specs.Output.{WritesPrefix}
use Rattle.tape_image.specs.Plan.{PlanValue}
use Rattle.tape_image.specs.Word.{WordValue}
use Rattle.host_core.specs.declared.heard.Heard.{Heard}
use Rattle.host_core.specs.declared.progress.Progress.{Progress}
use Rattle.host_core.specs.Console.{go}
use Rattle.host_core.specs.Core.{Core}
use Rattle.host_core.specs.Host.{IsHost}
use Rattle.host_core.specs.Laws.{led, replay}
use Rattle.host_core.specs.PhaseTable.{move}
use Rattle.host_core.proofs.Lives.{led_kept, led_plan}
use Rattle.host_core.proofs.Marks.{go_marks}
use Rattle.host_core.proofs.Turns.{begun_by_kept, kept}
use Rattle.host_devices.specs.declared.item.Item.{Item}
use Rattle.host_devices.specs.declared.item.Kept.{Kept}
use Rattle.host_devices.specs.declared.item.Kept.TheVariants.{Word, Go}
use Rattle.host_devices.specs.Dialogue.{said, dialogue, keys_of, mark_between, news_between}
use Rattle.honest_line.proofs.Trusted.{keys_of-dialogue}
use Rattle.engine.specs.declared.stop.Stop.TheVariants.{Ended, KeepFailed, CutOff}
use Rattle.engine.specs.Keeping.{AllOrFront, KeepsEach, KeptBy, LacksLast, keeping}
use Rattle.engine.specs.Stopping.{keep_fault}
use Rattle.load_engine.specs.Driving.{Driving, LoadSession, LoadStop}
use Rattle.load_engine.proofs.News.{led_forward}
use Rattle.load_engine.proofs.Sessions.{core_is, keys_join, session_given, session_mark, session_said}
use Rattle.load_record.specs.declared.version.Version.TheVariants.{Second}
use Rattle.load_record.specs.Keeper.{Keeper, HasKept, HasCutShort, HoldsRecord}
use Rattle.load_record.specs.RecordText.{mark_text, record_text, second_piece, words_text}
use Rattle.load_record.proofs.Keeping.{known_text, wrote_adds}
use Rattle.load_lives.specs.Stops.{WentOut, IsBeginning, decided, opening, turns_of}
use Rattle.load_lives.specs.Keepers.{WentOutAt, KeptLoad, HasLeft, KeepersLeave, record_calls}
use Rattle.load_lives.specs.Lives.{GoesOnFrom}
use Rattle.load_lives.proofs.Records.{says_sound}
use Rattle.load_lives.proofs.Stopping.{unsent_out, records_are_fronts}

-- ---- the plan's words one after another

next_is : (words : List WordValue) (k : ℕ) (w : WordValue) (rest : List WordValue) → drop k words ≡ w ∷ rest → slice_get words k ≡ Some w
next_is [] zero w rest e = absurd (cc)
next_is [] (suc k) w rest e = absurd (cc)
next_is (v ∷ words) zero w rest e = let same : v ≡ w = cc e in ap Some same
next_is (v ∷ words) (suc k) w rest e = next_is words k w rest e

later_are : (words : List WordValue) (k : ℕ) (w : WordValue) (rest : List WordValue) → drop k words ≡ w ∷ rest → drop (k + 1) words ≡ rest
later_are words k w rest e = sym (drop-drop 1 k words) ∙ ap (drop 1) e

-- words kept one after another make the record of so many words more
words_held : (plan : PlanValue) (k : ℕ) (words later : List WordValue) (items : List Kept) (keep keep' : Keeper) → HoldsRecord keep plan k → drop k plan.words ≡ words ++ later →
    KeepsEach HasKept keep (map Word words ++ items) keep' → (next : Keeper) × HoldsRecord next plan (k + length words) × KeepsEach HasKept next items keep'
words_held plan k [] later items keep keep' holds next each = (keep, subst (HoldsRecord keep plan) (none k) holds, each)
  where
    none : (n : ℕ) → n ≡ n + 0
    none n = omega arith
words_held plan k (w ∷ words) later items keep keep' holds next (between, wrote, each) =
    let held : HoldsRecord between plan (k + 1) = wrote_adds keep between w wrote plan k holds (next_is plan.words k w (words ++ later) next) in
    let rest = words_held plan (k + 1) words later items between keep' held (later_are plan.words k w (words ++ later) next) each in
    (rest.0, subst (HoldsRecord rest.0 plan) (more k (length words)) rest.1, rest.2)
  where
    more : (n m : ℕ) → n + 1 + m ≡ n + suc m
    more n m = omega arith

-- the writer holds the whole record of some words and of the mark, where it is set
holds_all : (plan : PlanValue) (k : ℕ) (set : Bool) (keep keep' : Keeper) → HoldsRecord keep plan k → KeepsEach HasKept keep (mark_between false set) keep' → keep'.text ≡ Some (record_text Second plan k set)
holds_all plan k false keep keep' holds same = ap (λ (k : Keeper). k.text) same ∙ holds.written
holds_all plan k true keep keep' holds (next, wrote, same) =
    ap (λ (k : Keeper). k.text) same ∙ (known_text keep.text next.text (words_text Second plan k) (mark_text keep.run) holds.written wrote.appended
    ∙ ap (λ run. Some (words_text Second plan k ++ mark_text run)) holds.knows)

-- ---- all but the last

-- of some words, and then perhaps the mark, these were kept and this was not: the last word, where there is no mark, or the mark
data CutAt (words : List WordValue) (set : Bool) (kept : List Kept) (last : Kept) : Type 0 where
  at_word : (front : List WordValue) (w : WordValue) → words ≡ front ++ w ∷ [] → set ≡ false → kept ≡ map Word front → last ≡ Word w → CutAt words set kept last
  at_mark : set ≡ true → kept ≡ map Word words → last ≡ Go → CutAt words set kept last

no_room : {A : Type 0} (xs : List A) (x : A) → [] ≡ xs ++ x ∷ [] → ⊥
no_room [] x e = cc e
no_room (y ∷ xs) x e = cc e

alone : (words : List WordValue) (set : Bool) → map Word words ++ mark_between false set ≡ [] → (words ≡ []) × (set ≡ false)
alone [] true e = absurd (cc)
alone [] false e = (refl, refl)
alone (w ∷ words) set e = absurd (cc)

cut_at : (words : List WordValue) (set : Bool) (kept : List Kept) (last : Kept) → map Word words ++ mark_between false set ≡ kept ++ last ∷ [] → CutAt words set kept last
cut_at [] true [] last e = let same : Go ≡ last = cc e in at_mark refl refl (sym same)
cut_at [] true (item ∷ kept) last e = absurd (no_room kept last (cc e))
cut_at [] false kept last e = absurd (no_room kept last e)
cut_at (w ∷ words) set [] last e =
    let none = alone words set (cc e) in
    let same : Word w ≡ last = cc e in
    at_word [] w (ap (λ l. w ∷ l) none.0) none.1 refl (sym same)
cut_at (w ∷ words) set (item ∷ kept) last e = one_more (cut_at words set kept last (cc e))
  where
    first : Word w ≡ item
    first = cc e

    one_more : CutAt words set kept last → CutAt (w ∷ words) set (item ∷ kept) last
    one_more (at_word front v is unset before missing) =
        at_word (w ∷ front) v (ap (λ l. w ∷ l) is) unset (ap (λ i. i ∷ kept) (sym first) ∙ ap (λ l. Word w ∷ l) before) missing
    one_more (at_mark is before missing) = at_mark is (ap (λ i. i ∷ kept) (sym first) ∙ ap (λ l. Word w ∷ l) before) missing

-- there is no mark among words
no_mark : (words : List WordValue) → Contains (map Word words) Go → ⊥
no_mark [] (k, below, is) = omega (arith, below)
no_mark (w ∷ words) (zero, below, is) = cc
no_mark (w ∷ words) (suc k, below, is) = no_mark words (k, omega (arith, below), is)

kept_no_mark : (words : List WordValue) (set : Bool) (kept : List Kept) (last : Kept) → CutAt words set kept last → Contains kept Go → ⊥
kept_no_mark words set kept last (at_word front w is unset before missing) has = no_mark front (subst (λ (l : List Kept). Contains l Go) before has)
kept_no_mark words set kept last (at_mark is before missing) has = no_mark words (subst (λ (l : List Kept). Contains l Go) before has)

-- a front of a text was written behind a text that is known
part_text : (old new : Option (List ℕ)) (text more : List ℕ) → old ≡ Some text → WritesPrefix old new more → (front : List ℕ) × IsBeginning front more × (new ≡ Some (text ++ front))
part_text old new text more e (left, part) = (part.written, (left, sym part.whole), known_text old new text part.written e part.appended)

-- ---- where the keeper failed

-- the writer holds a front of the record of some words and of the mark, where it is set
abbrev HoldsFront : PlanValue → ℕ → Bool → Keeper → Type 0
HoldsFront plan k set keep = (text : List ℕ) × (keep.text ≡ Some text) × IsBeginning text (record_text Second plan k set)

word_missing : (plan : PlanValue) (k : ℕ) (w : WordValue) (keep keep' : Keeper) → HoldsRecord keep plan k → slice_get plan.words k ≡ Some w → HasCutShort keep (Word w) keep' → HoldsFront plan (k + 1) false keep'
word_missing plan k w keep keep' holds next cut =
    let part = part_text keep.text keep'.text (record_text Second plan k false) (second_piece keep.run w) holds.written cut.part in
    (record_text Second plan k false ++ part.0, part.2, records_are_fronts.word plan k w part.0 next (subst (λ run. IsBeginning part.0 (second_piece run w)) holds.knows part.1))

mark_missing : (plan : PlanValue) (k : ℕ) (keep keep' : Keeper) → HoldsRecord keep plan k → HasCutShort keep Go keep' → HoldsFront plan k true keep'
mark_missing plan k keep keep' holds cut =
    let part = part_text keep.text keep'.text (record_text Second plan k false) (mark_text keep.run) holds.written cut.part in
    (record_text Second plan k false ++ part.0, part.2, records_are_fronts.mark plan k part.0 (subst (λ run. IsBeginning part.0 (mark_text run)) holds.knows part.1))

-- the words that were kept, where the next one was not
front_held : (plan : PlanValue) (k : ℕ) (front : List WordValue) (w : WordValue) (later : List WordValue) (kept : List Kept) (keep next : Keeper) → HoldsRecord keep plan k → drop k plan.words ≡ (front ++ w ∷ []) ++ later → kept ≡ map Word front →
    KeepsEach HasKept keep kept next → HoldsRecord next plan (k + length front) × (slice_get plan.words (k + length front) ≡ Some w)
front_held plan k front w later kept keep next holds words are each =
    let split : drop k plan.words ≡ front ++ w ∷ later = words ∙ append_assoc front (w ∷ []) later in
    let held = words_held plan k front (w ∷ later) [] keep next holds split (subst (λ items. KeepsEach HasKept keep items next) (are ∙ sym (append-nil (map Word front))) each) in
    (subst (λ (keeper : Keeper). HoldsRecord keeper plan (k + length front)) (sym held.2) held.1, at plan.words k front (w ∷ later) w later split refl)
  where
    at : (all : List WordValue) (k : ℕ) (front tail : List WordValue) (w : WordValue) (later : List WordValue) → drop k all ≡ front ++ tail → tail ≡ w ∷ later → slice_get all (k + length front) ≡ Some w
    at all k [] tail w later e is = subst (λ n. slice_get all n ≡ Some w) (none k) (next_is all k w later (e ∙ is))
      where
        none : (n : ℕ) → n ≡ n + 0
        none n = omega arith
    at all k (v ∷ front) tail w later e is =
        subst (λ n. slice_get all n ≡ Some w) (more k (length front)) (at all (k + 1) front tail w later (later_are all k v (front ++ tail) e) is)
      where
        more : (n m : ℕ) → n + 1 + m ≡ n + suc m
        more n m = omega arith

-- the record's words and its mark, but for what the failed call left out
cut_front : (plan : PlanValue) (k n : ℕ) (words later : List WordValue) (set : Bool) (kept : List Kept) (last : Kept) (keep next keep' : Keeper) → HoldsRecord keep plan k → drop k plan.words ≡ words ++ later → n ≡ k + length words →
    CutAt words set kept last → KeepsEach HasKept keep kept next → HasCutShort next last keep' → HoldsFront plan n set keep'
cut_front plan k n words later set kept last keep next keep' holds are n_is (at_word front w is unset before missing) each failed =
    let held = front_held plan k front w later kept keep next holds (are ∙ ap (λ l. l ++ later) is) before each in
    let count : k + length front + 1 ≡ n = counted k front w words n is n_is in
    subst (λ m. HoldsFront plan m set keep') count
    (subst (λ g. HoldsFront plan (k + length front + 1) g keep') (sym unset)
    (word_missing plan (k + length front) w next keep' held.0 held.1 (subst (λ item. HasCutShort next item keep') missing failed)))
  where
    counted : (k : ℕ) (front : List WordValue) (w : WordValue) (words : List WordValue) (n : ℕ) → words ≡ front ++ w ∷ [] → n ≡ k + length words → k + length front + 1 ≡ n
    counted k front w words n is e = let l : length words ≡ length front + 1 = ap length is ∙ one front w in omega (arith, l, e)
      where
        one : (front : List WordValue) (w : WordValue) → length (front ++ w ∷ []) ≡ length front + 1
        one [] w = omega arith
        one (v ∷ front) w = let more = one front w in omega (arith, more)
cut_front plan k n words later set kept last keep next keep' holds are n_is (at_mark is before missing) each failed =
    let held = words_held plan k words later [] keep next holds are (subst (λ items. KeepsEach HasKept keep items next) (before ∙ sym (append-nil (map Word words))) each) in
    let here : HoldsRecord next plan n = subst (HoldsRecord next plan) (sym n_is) (subst (λ (keeper : Keeper). HoldsRecord keeper plan (k + length words)) (sym held.2) held.1) in
    subst (λ g. HoldsFront plan n g keep') (sym is) (mark_missing plan n next keep' here (subst (λ item. HasCutShort next item keep') missing failed))

-- ---- `G` among the keys

mark_stays : (core : Core) (things : List Heard) → IsHost core → core.going ≡ true → (led core things).going ≡ true
mark_stays core things host set = ((led_forward core things host).marked set).1

the_key : (key : Option ℕ) → Contains (option_to_list key) go → key ≡ Some go
the_key None (k, below, is) = absurd (omega (arith, below))
the_key (Some c) (zero, below, is) = ap Some (cc)
the_key (Some c) (suc k, below, is) = absurd (omega (arith, below))

-- where `G` is one of the keys of a dialogue the mark is set
go_is_marked : (core : Core) (things : List Heard) → IsHost core → Contains (replay core things) go → (led core things).going ≡ true
go_is_marked core [] host (k, below, is) = absurd (omega (arith, below))
go_is_marked core (what ∷ things) host has =
    elim (Contains-append_cases (option_to_list (move core what).key) (replay (move core what).next things) go has) [
      | inl now ↦ mark_stays (move core what).next things (kept core what host) (go_marks core what host (the_key (move core what).key now)).now
      | inr later ↦ go_is_marked (move core what).next things (kept core what host) later
    ]

said_marked : (core : Core) (things : List Heard) (items : List Item) (unsent : Option ℕ) → IsHost core → dialogue core things ≡ items ++ said unsent → Contains (keys_of items) go → (led core things).going ≡ true
said_marked core things items unsent host is has =
    go_is_marked core things host
    (subst (λ keys. Contains keys go) (sym (keys_join items (said unsent)) ∙ (ap keys_of (sym is) ∙ keys_of-dialogue things core)) (Contains-append_left (keys_of items) (keys_of (said unsent)) go has))

-- ---- what the keeper holds, by how the engine stopped

-- a front of the record, where the keeper failed; else all of it
abbrev HoldsNow : LoadStop → PlanValue → ℕ → Bool → Keeper → Type 0
HoldsNow (KeepFailed fault) plan n set keep = HoldsFront plan n set keep
HoldsNow (CutOff cut) plan n set keep = keep.text ≡ Some (record_text Second plan n set)
HoldsNow (Ended end) plan n set keep = keep.text ≡ Some (record_text Second plan n set)

all_kept : (plan : PlanValue) (k n : ℕ) (words later : List WordValue) (set : Bool) (keep keep' : Keeper) → HoldsRecord keep plan k → drop k plan.words ≡ words ++ later → n ≡ k + length words →
    KeepsEach HasKept keep (map Word words ++ mark_between false set) keep' → keep'.text ≡ Some (record_text Second plan n set)
all_kept plan k n words later set keep keep' holds are n_is each =
    let held = words_held plan k words later (mark_between false set) keep keep' holds are each in
    holds_all plan n set held.0 keep' (subst (HoldsRecord held.0 plan) (sym n_is) held.1) held.2

holds_now : (stop : LoadStop) (plan : PlanValue) (k n : ℕ) (words later : List WordValue) (set : Bool) (keep keep' : Keeper) → HoldsRecord keep plan k → drop k plan.words ≡ words ++ later → n ≡ k + length words →
    KeptBy record_calls (keeping (map Word words ++ mark_between false set) (keep_fault (Some stop))) keep keep' → HoldsNow stop plan n set keep'
holds_now (KeepFailed fault) plan k n words later set keep keep' holds are n_is by =
    cut_front plan k n words later set by.kept by.last keep by.next keep' holds are n_is (cut_at words set by.kept by.last by.items_are) by.each by.failing
holds_now (CutOff cut) plan k n words later set keep keep' holds are n_is by = all_kept plan k n words later set keep keep' holds are n_is by
holds_now (Ended end) plan k n words later set keep keep' holds are n_is by = all_kept plan k n words later set keep keep' holds are n_is by

-- where the keeper failed no mark was kept
abbrev NoMark : LoadStop → List Kept → Type 0
NoMark (KeepFailed fault) kept = Contains kept Go → ⊥
NoMark stop kept = Unit {0}

no_mark_kept : (stop : LoadStop) (words : List WordValue) (set : Bool) (news kept : List Kept) → news ≡ map Word words ++ mark_between false set → AllOrFront (keep_fault (Some stop)) (kept ≡ news) (LacksLast news kept) → NoMark stop kept
no_mark_kept (KeepFailed fault) words set news kept are (last, is) = kept_no_mark words set kept last (cut_at words set kept last (sym are ∙ is))
no_mark_kept (CutOff cut) words set news kept are is = tt
no_mark_kept (Ended end) words set news kept are is = tt

-- what went out where the keeper failed was told
said_of : (stop : LoadStop) (all told items : List Item) → WentOutAt stop all told items → WentOut all told items
said_of (KeepFailed fault) all told items out = inl out
said_of (CutOff cut) all told items out = out
said_of (Ended end) all told items out = out

whole_left : (load : KeptLoad) → load.run.progress.going ≡ false → load.keep'.text ≡ Some (record_text Second load.run.plan load.run.core.verified load.run.core.going) →
    (Contains (keys_of load.run.items) go → load.run.core.going ≡ true) → HasLeft load
whole_left load unset is sets =
    let core : Core = load.run.core in
    record {
      now = record_text Second load.run.plan core.verified core.going;
      told = is;
      left = record {
        cut = inr ([], append-nil (record_text Second load.run.plan core.verified core.going));
        whole = λ has. ap (record_text Second load.run.plan core.verified) (sets has);
        alone = λ set. absurd (cc);
      };
    }

leaves : (stop : LoadStop) (load : KeptLoad) (all told : List Item) (kept : List Kept) → load.run.progress.going ≡ false → HoldsNow stop load.run.plan load.run.core.verified load.run.core.going load.keep' →
    (Contains (keys_of load.run.items) go → load.run.core.going ≡ true) → WentOutAt stop all told load.run.items → (Contains (keys_of told) go → Contains kept Go) → NoMark stop kept → HasLeft load
leaves (KeepFailed fault) load all told kept unset (text, is, front) sets out first none = record {
  now = text;
  told = is;
  left = record { cut = inr front; whole = λ has. absurd (none (first (subst (λ list. Contains (keys_of list) go) out has))); alone = λ set. absurd (cc) };
}
leaves (CutOff cut) load all told kept unset is sets out first none = whole_left load unset is sets
leaves (Ended end) load all told kept unset is sets out first none = whole_left load unset is sets

pub keepers_leave : KeepersLeave
keepers_leave load was stopped by =
    leaves load.stop load said session.said session.kept was.no_mark
    (holds_now load.stop plan progress.verified core.verified words later core.going load.keep load.keep' was.holds (sym (take-append-drop (core.verified - progress.verified) (drop progress.verified plan.words))) count
    (subst (λ (news : List Kept). KeptBy record_calls (keeping news (keep_fault (Some load.stop))) load.keep load.keep') news by))
    sets stopped.out (session_mark load.run.turns turns load.run.before load.run.after session host) (no_mark_kept load.stop words core.going session.given session.kept (given ∙ news) session.news)
  where
    plan : PlanValue
    plan = load.run.plan

    progress : Progress
    progress = load.run.progress

    core : Core
    core = load.run.core

    first : Core
    first = opening load.run

    goes : GoesOnFrom plan load.text progress
    goes = stopped.driven.goes_on

    turns : Driving
    turns = turns_of load.run (Some load.stop)

    session : LoadSession load.run.turns turns load.run.before load.run.after
    session = stopped.driven.session

    at : core ≡ led first session.heard
    at = core_is load.run.turns turns load.run.before load.run.after session

    -- all that its core decided to say
    said : List Item
    said = decided stopped.driven

    words : List WordValue
    words = take (core.verified - progress.verified) (drop progress.verified plan.words)

    later : List WordValue
    later = drop (core.verified - progress.verified) (drop progress.verified plan.words)

    host : IsHost first
    host =
        let sound = says_sound plan load.text goes.recorded goes.says in
        begun_by_kept load.run.careful plan progress.verified progress.going load.run.patience was.fits (omega (arith, goes.fewer, sound.within)) stopped.driven.patient (λ set. (sound.marked (sym goes.same_mark ∙ set)).1)

    within : core.verified ≤ length plan.words
    within = subst (λ (p : PlanValue). core.verified ≤ length p.words) (ap (λ (c : Core). c.plan) at ∙ led_plan first session.heard) (subst IsHost (sym at) (led_kept first session.heard host)).within

    more : progress.verified ≤ core.verified
    more = subst (λ (c : Core). progress.verified ≤ c.verified) (sym at) (led_forward first session.heard host).verified

    count : core.verified ≡ progress.verified + length words
    count = omega (arith, within, more, length-take (core.verified - progress.verified) (drop progress.verified plan.words), length-drop progress.verified plan.words)

    given : session.given ≡ news_between first core
    given = session_given load.run.turns turns load.run.before load.run.after session host

    news : news_between first core ≡ map Word words ++ mark_between false core.going
    news = ap (λ g. map Word words ++ mark_between g core.going) was.no_mark

    sets : Contains (keys_of load.run.items) go → core.going ≡ true
    sets has =
        let u = unsent_out (Some load.stop) said session.said load.run.items (session_said load.run.turns turns load.run.before load.run.after session) (said_of load.stop said session.said load.run.items stopped.out) in
        ap (λ (c : Core). c.going) at ∙ said_marked first session.heard load.run.items u.0 host u.1 has
