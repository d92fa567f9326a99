-- What a keeper that has begun a record holds behind the parts of a life: a front of the record of what is verified, whatever the record was before.
use Rattle.std.proofs.Common.{◌≡◌, ◌⊎◌, ℕ, zero, suc, ◌+◌, ◌-◌, ◌^◌, ◌≤◌, ◌<◌, Bool, true, false, List, [], ◌∷◌, ◌++◌, length, take, drop, map, Option, Some, Ok, inl, inr, refl, arith, ap, sym, subst, ◌∙◌, append-nil, append_assoc}
use Rattle.std.specs.Prelude.{Contains}
use Rattle.std.specs.List.{slice_get}
use Rattle.std.proofs.Math.Seq.{drop-drop}
use Rattle.std.proofs.lemmas.List.{length-take, length-drop, length-append, take-append-drop, take-map}
use Rattle.tape_image.specs.Plan.{PlanValue, IsPlan}
use Rattle.tape_image.specs.Word.{WordValue}
use Rattle.host_core.specs.declared.progress.Progress.{Progress}
use Rattle.host_core.specs.Console.{go}
use Rattle.host_core.specs.Core.{Core, begun_by}
use Rattle.host_core.specs.Host.{IsHost}
use Rattle.host_core.proofs.Turns.{begun_by_kept}
use Rattle.host_devices.specs.declared.item.Item.{Item}
use Rattle.host_devices.specs.declared.item.Kept.{Kept}
use Rattle.host_devices.specs.declared.item.Kept.TheVariants.{Word}
use Rattle.host_devices.specs.Dialogue.{dialogue, keys_of}
use Rattle.host_devices.specs.Turns.{most_turns}
use Rattle.load_engine.specs.Driving.{LoadSession, LoadStop as Stop, driving}
use Rattle.load_engine.proofs.Sessions.{core_is}
use Rattle.load_engine.specs.Driven.{turns_give}
use Rattle.engine.specs.Keeping.{AllOrFront, KeepsEach, KeptBy}
use Rattle.engine.specs.Session.{SessionTold}
use Rattle.engine.specs.Stopping.{keep_fault}
use Rattle.engine.specs.declared.stop.Stop.TheVariants.{Ended, KeepFailed, CutOff}
use Rattle.host_devices.specs.declared.fault.KeepFault.{KeepFault}
use Rattle.load_engine.proofs.News.{led_forward}
use Rattle.byte_io.specs.Output.{WritesPrefix}
use Rattle.load_record.specs.declared.version.Version.TheVariants.{Second}
use Rattle.load_record.specs.Keeper.{Keeper, HasKept, HasCutShort, HoldsRecord}
use Rattle.load_record.specs.Reading.{Says}
use Rattle.load_record.specs.RecordText.{record_text, second_piece}
use Rattle.load_record.proofs.Keeping.{known_text, wrote_adds}
use Rattle.load_record.proofs.RecordLaws.{record_made, record_short, whole_read}
use Rattle.load_record.proofs.Sound.{sound-accepted}
use Rattle.load_lives.specs.Keepers.{WentOutAt, KeptLoad, HasLeft}
use Rattle.load_lives.specs.Lives.{GoesOnFrom}
use Rattle.load_lives.specs.Stops.{IsBeginning}
use Rattle.load_lives.proofs.Keepers.{keepers_leave}
use Rattle.load_lives.proofs.Stopping.{records_are_fronts}
use Rattle.stub_engine.specs.Keeping.{KeepsFront, words_kept}
use Rattle.machine_load.specs.Lives.{of_file}
use Rattle.stub_engine.specs.Parts.{StubsStop}

-- the keeper holds a front of the record of what a core has verified; the whole, with the mark, where `G` was sent
pub record HoldsFront (plan : PlanValue) (core : Core) (items : List Item) (keep : Keeper) : Type 0 where
  pub text : List ℕ
  pub held : keep.text ≡ Some text
  pub front : IsBeginning text (record_text Second plan core.verified core.going)
  pub whole : Contains (keys_of items) go → text ≡ record_text Second plan core.verified true

begins_more : (a b c : List ℕ) → IsBeginning a b → IsBeginning b c → IsBeginning a c
begins_more a b c f g = (f.0 ++ g.0, sym (append_assoc a f.0 g.0) ∙ (ap (λ l. l ++ g.0) f.1 ∙ g.1))

-- ---- behind the host

-- the record of the first words says them
pub written_says : (plan : PlanValue) (v : ℕ) → IsPlan plan → v ≤ length plan.words → Says plan (record_text Second plan v false) (Ok (record { verified = v; going = false }))
written_says plan v fits within =
    whole_read Second plan (record_text Second plan v false) v false (record_short Second plan v false fits)
    (record_made Second plan v false (sound-accepted plan (record { verified = v; going = false }) (record { within = within; marked = λ set. absurd (cc set) })))

front_of : (plan : PlanValue) (v : ℕ) (core : Core) (text : List ℕ) → v ≤ core.verified
    → (text ≡ record_text Second plan v false) ⊎ ((missing : List ℕ) × (text ++ missing ≡ record_text Second plan core.verified core.going)) → IsBeginning text (record_text Second plan core.verified core.going)
front_of plan v core text more (inl same) = subst (λ t. IsBeginning t (record_text Second plan core.verified core.going)) (sym same) (records_are_fronts.fewer plan v core.verified core.going more)
front_of plan v core text more (inr front) = front

-- what the keeper of the record of the first words holds once a host, plain or careful, has gone on behind them
pub host_holds : (careful : Bool) (plan : PlanValue) (v patience : ℕ) (stop : Stop) (core : Core) (before after : SessionTold Kept) (keep keep' : Keeper) (items : List Item) → IsPlan plan → patience < 2 ^ 32 → v ≤ length plan.words
    → HoldsRecord keep plan v → (session : LoadSession most_turns (driving (begun_by careful plan v false patience) core (Some stop)) before after) → WentOutAt stop (dialogue (begun_by careful plan v false patience) session.heard) session.said items
    → KeptBy of_file.calls (turns_give (driving (begun_by careful plan v false patience) core (Some stop))) keep keep' → HoldsFront plan core items keep'
host_holds careful plan v patience stop core before after keep keep' items fits long within holds session out by =
    let kept : HasLeft load =
    keepers_leave load (record { fits = fits; no_mark = refl; holds = holds }) (record { driven = record { patient = long; goes_on = goes; session = session }; out = out }) by in record {
      text = kept.now;
      held = kept.told;
      front = front_of plan v core kept.now more kept.left.cut;
      whole = kept.left.whole;
    }
  where
    progress : Progress
    progress = record { verified = v; going = false }

    load : KeptLoad
    load = record {
      run = record { careful = careful; plan = plan; progress = progress; patience = patience; turns = most_turns; core = core; before = before; after = after; items = items };
      stop = stop;
      text = record_text Second plan v false;
      keep = keep;
      keep' = keep';
    }

    goes : GoesOnFrom plan (record_text Second plan v false) progress
    goes = record { recorded = progress; says = written_says plan v fits within; fewer = omega arith; same_mark = refl }

    host : IsHost (begun_by careful plan v false patience)
    host = begun_by_kept careful plan v false patience fits within long (λ set. absurd (cc set))

    more : v ≤ core.verified
    more = subst (λ (c : Core). v ≤ c.verified) (sym (core_is most_turns (driving (begun_by careful plan v false patience) core (Some stop)) before after session)) (led_forward (begun_by careful plan v false patience) session.heard host).verified

-- ---- behind the stubs

next_is : (words : List WordValue) (k : ℕ) (w : WordValue) (rest : List WordValue) → drop k words ≡ w ∷ rest → slice_get words k ≡ Some w
next_is [] zero w rest e = absurd (cc)
next_is [] (suc k) w rest e = absurd (cc)
next_is (v ∷ words) zero w rest e = let same : v ≡ w = cc e in ap Some same
next_is (v ∷ words) (suc k) w rest e = next_is words k w rest e

later_are : (words : List WordValue) (k : ℕ) (w : WordValue) (rest : List WordValue) → drop k words ≡ w ∷ rest → drop (k + 1) words ≡ rest
later_are words k w rest e = sym (drop-drop 1 k words) ∙ ap (drop 1) e

-- words kept one after another make the record of so many words more
each_held : (plan : PlanValue) (k : ℕ) (words later : List WordValue) (keep keep' : Keeper) → HoldsRecord keep plan k → drop k plan.words ≡ words ++ later → KeepsEach HasKept keep (map Word words) keep' → HoldsRecord keep' plan (k + length words)
each_held plan k [] later keep keep' holds next same = subst (HoldsRecord keep' plan) (none k) (subst (λ (keeper : Keeper). HoldsRecord keeper plan k) (sym same) holds)
  where
    none : (n : ℕ) → n ≡ n + 0
    none n = omega arith
each_held plan k (w ∷ words) later keep keep' holds next (between, wrote, each) =
    let held : HoldsRecord between plan (k + 1) = wrote_adds keep between w wrote plan k holds (next_is plan.words k w (words ++ later) next) in
    subst (HoldsRecord keep' plan) (more k (length words)) (each_held plan (k + 1) words later between keep' held (later_are plan.words k w (words ++ later) next) each)
  where
    more : (n m : ℕ) → n + 1 + m ≡ n + suc m
    more n m = omega arith

-- a front of a text was written behind a text that is known
part_text : (old new : Option (List ℕ)) (text more : List ℕ) → old ≡ Some text → WritesPrefix old new more → (front : List ℕ) × IsBeginning front more × (new ≡ Some (text ++ front))
part_text old new text more e (left, part) = (part.written, (left, sym part.whole), known_text old new text part.written e part.appended)

-- the last of some words
record Last (words : List WordValue) (kept : List Kept) (last : Kept) : Type 0 where
  front : List WordValue
  word : WordValue
  words_are : words ≡ front ++ word ∷ []
  kept_are : kept ≡ map Word front
  last_is : last ≡ Word word

last_of : (words : List WordValue) (kept : List Kept) (last : Kept) → map Word words ≡ kept ++ last ∷ [] → Last words kept last
last_of [] [] last e = absurd (cc e)
last_of [] (item ∷ kept) last e = absurd (cc e)
last_of (w ∷ []) [] last e = let same : Word w ≡ last = cc e in record { front = []; word = w; words_are = refl; kept_are = refl; last_is = sym same }
last_of (w ∷ v ∷ words) [] last e = absurd (cc e)
last_of (w ∷ words) (item ∷ kept) last e =
    let same : Word w ≡ item = cc e in
    let l = last_of words kept last (cc e) in record {
      front = w ∷ l.front;
      word = l.word;
      words_are = ap (λ list. w ∷ list) l.words_are;
      kept_are = ap (λ i. i ∷ kept) (sym same) ∙ ap (λ list. Word w ∷ list) l.kept_are;
      last_is = l.last_is;
    }

-- each thing was kept, or a front of them where the keeper failed
abbrev pub EachKept : Option KeepFault → Keeper → List Kept → Keeper → Type 0
EachKept fault keep items keep' = AllOrFront fault (KeepsEach of_file.calls.keeps keep items keep') (KeepsFront of_file.calls items keep keep')

module _ (plan : PlanValue) (v w : ℕ) (keep keep' : Keeper) (holds : HoldsRecord keep plan v) (grows : v ≤ w) (within : w ≤ length plan.words) where
  abbrev words : List WordValue
  words = take (w - v) (drop v plan.words)

  count : length words ≡ w - v
  count = omega (arith, within, grows, length-take (w - v) (drop v plan.words), length-drop v plan.words)

  split : drop v plan.words ≡ words ++ drop (w - v) (drop v plan.words)
  split = sym (take-append-drop (w - v) (drop v plan.words))

  pub stubs_held : KeepsEach HasKept keep (words_kept plan.words v w) keep' → HoldsRecord keep' plan w
  stubs_held each = subst (HoldsRecord keep' plan) sum (each_held plan v words (drop (w - v) (drop v plan.words)) keep keep' holds split each)
    where
      sum : v + length words ≡ w
      sum = omega (arith, count, grows)

  cut_at : (kept : List Kept) (last : Kept) (next : Keeper) (n : ℕ) → Last (take n words) kept last → KeepsEach HasKept keep kept next → HasCutShort next last keep' → (text : List ℕ) × (keep'.text ≡ Some text) × IsBeginning text (record_text Second plan w false)
  cut_at kept last next n l each failed =
      let part = part_text next.text keep'.text (record_text Second plan k false) (second_piece next.run l.word) held.written cut.part in (
        record_text Second plan k false ++ part.0,
        part.2,
        begins_more (record_text Second plan k false ++ part.0) (record_text Second plan (k + 1) false) (record_text Second plan w false)
            (records_are_fronts.word plan k l.word part.0 at (subst (λ run. IsBeginning part.0 (second_piece run l.word)) held.knows part.1))
            (records_are_fronts.fewer plan (k + 1) w false below),
      )
    where
      rest : List WordValue
      rest = drop n words ++ drop (w - v) (drop v plan.words)

      k : ℕ
      k = v + length l.front

      cut : HasCutShort next (Word l.word) keep'
      cut = subst (λ item. HasCutShort next item keep') l.last_is failed

      all : drop v plan.words ≡ l.front ++ l.word ∷ rest
      all =
          split ∙ (ap (λ list. list ++ drop (w - v) (drop v plan.words)) (sym (take-append-drop n words) ∙ ap (λ list. list ++ drop n words) l.words_are)
          ∙ (append_assoc (l.front ++ l.word ∷ []) (drop n words) (drop (w - v) (drop v plan.words)) ∙ append_assoc l.front (l.word ∷ []) rest))

      held : HoldsRecord next plan k
      held = each_held plan v l.front (l.word ∷ rest) keep next holds all (subst (λ items. KeepsEach HasKept keep items next) l.kept_are each)

      at : slice_get plan.words k ≡ Some l.word
      at = here plan.words v l.front (l.word ∷ rest) l.word rest all refl
        where
          here : (list : List WordValue) (k : ℕ) (front tail : List WordValue) (w : WordValue) (later : List WordValue) → drop k list ≡ front ++ tail → tail ≡ w ∷ later → slice_get list (k + length front) ≡ Some w
          here list k [] tail w later e is = subst (λ n. slice_get list n ≡ Some w) (none k) (next_is list k w later (e ∙ is))
            where
              none : (n : ℕ) → n ≡ n + 0
              none n = omega arith
          here list k (v ∷ front) tail w later e is =
              subst (λ n. slice_get list n ≡ Some w) (more k (length front)) (here list (k + 1) front tail w later (later_are list k v (front ++ tail) e) is)
            where
              more : (n m : ℕ) → n + 1 + m ≡ n + suc m
              more n m = omega arith

      below : k + 1 ≤ w
      below =
          let long = ap length all ∙ length-append l.front (l.word ∷ rest) in
          let short : length l.front + 1 ≤ length words = fits in omega (arith, count, grows, short)
        where
          fits : length l.front + 1 ≤ length words
          fits =
              let one = ap length l.words_are ∙ length-append l.front (l.word ∷ []) in
              let both = sym (length-append (take n words) (drop n words)) ∙ ap length (take-append-drop n words) in omega (arith, one, both)

  whole : HoldsRecord keep' plan w → (text : List ℕ) × (keep'.text ≡ Some text) × IsBeginning text (record_text Second plan w false)
  whole held = (record_text Second plan w false, held.written, ([], append-nil (record_text Second plan w false)))

  -- what a keeper holds behind stubs that stopped so
  pub stubs_front : (stop : StubsStop) → EachKept (keep_fault (Some stop)) keep (words_kept plan.words v w) keep' → (text : List ℕ) × (keep'.text ≡ Some text) × IsBeginning text (record_text Second plan w false)
  stubs_front (KeepFailed fault) by =
      cut_at by.2.kept by.2.last by.2.next (by.0 + 1)
      (last_of (take (by.0 + 1) words) by.2.kept by.2.last (sym (take-map Word (by.0 + 1) words) ∙ by.2.items_are)) by.2.each by.2.failing
  stubs_front (CutOff cut) by = whole (stubs_held by)
  stubs_front (Ended end) by = whole (stubs_held by)
