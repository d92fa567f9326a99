-- Lives one after another: what each leaves for the next, and what they all come to.
use Rattle.std.proofs.Common.{◌≡◌, ℕ, ◌+◌, ◌<◌, ◌≤◌, Bool, true, false, eqb, List, [], ◌∷◌, ◌++◌, length, Option, Some, None, inl, inr, refl, arith, ap, sym, subst, ◌∙◌, append-nil}
use Rattle.std.specs.Prelude.{if◌then◌else◌, ◌⊎◌, ◌&&◌, Ok, Contains, IsSome, option_to_list}
use Rattle.std.specs.Option.{is_none}
use Rattle.std.proofs.lemmas.List.Elements.{Contains-append_left, Contains-append_cases}
use Rattle.tape_image.specs.Plan.{PlanValue, IsPlan}
use Rattle.tape_image.proofs.Halves.{merged-Stands}
use Rattle.host_core.specs.declared.heard.Heard.{Heard}
use Rattle.host_core.specs.declared.progress.Progress.{Progress}
use Rattle.host_core.specs.Console.{go}
use Rattle.host_core.specs.Core.{Core, begun, begun_by, word_nr}
use Rattle.host_core.specs.declared.phase.Phase.{Phase}
use Rattle.host_core.specs.declared.phase.Phase.TheVariants.{Settle, Ended}
use Rattle.host_core.specs.declared.phase.End.TheVariants.{Loaded, MaybeStarted}
use Rattle.host_core.specs.Host.{IsHost, MarkFits}
use Rattle.host_core.specs.Laws.{led, replay}
use Rattle.host_core.specs.PhaseTable.{move}
use Rattle.host_core.proofs.Frame.{silent}
use Rattle.host_core.proofs.Lives.{led_care, led_kept, led_plan}
use Rattle.host_core.proofs.Starts.{starts_only_whole}
use Rattle.host_core.proofs.Turns.{begun_kept}
use Rattle.line_world.specs.Wire.{Wire, forgiven}
use Rattle.line_world.specs.Scene.{over}
use Rattle.line_world.specs.Site.{IsThere}
use Rattle.line_world.specs.Invariant.{IsKept}
use Rattle.line_world.specs.Promises.{EndsAtGo, HasCause, StartsOnce}
use Rattle.line_world.specs.Safe.{IsSafe}
use Rattle.line_world.proofs.Events.{safe_of}
use Rattle.line_world.proofs.Opening.{opening_kept}
use Rattle.line_world.proofs.Starts.{ends_join}
use Rattle.line_world.proofs.Tame.{tame_of}
use Rattle.host_devices.specs.declared.item.Item.{Item}
use Rattle.host_devices.specs.declared.item.Item.TheVariants.{Sent, Heard as Came}
use Rattle.host_devices.specs.Dialogue.{said, dialogue, keys_of}
use Rattle.honest_line.specs.Honest.{resting}
use Rattle.honest_line.specs.Moves.{Moves, Passes}
use Rattle.honest_line.specs.Starts.{RunsByGo}
use Rattle.honest_line.specs.Trust.{IsTrusted}
use Rattle.honest_line.proofs.Passings.{any_then, later}
use Rattle.honest_line.proofs.Wires.{none_moves, passes_lost}
use Rattle.honest_line.proofs.Runs.{dialogue_leads}
use Rattle.honest_line.proofs.Trusted.{keys_of-dialogue, ends_front}
use Rattle.load_engine.proofs.Sessions.{keys_join, led_join}
use Rattle.exchange_law.proofs.Recovering.{has_cause}
use Rattle.looking_law.proofs.Splits.{heard_rests, nothing_lost, passes_fewer, passes_on}
use Rattle.load_record.specs.Reading.{Says}
use Rattle.load_record.proofs.Sound.{IsSound}
use Rattle.load_lives.specs.Lives.{WireAndRecord, Life, first_core, last_core, IsLife, Reopens, AreLives, typed, MayOpen, AreTrusted, IsLatestTrusted, LivesAreTrusted}
use Rattle.load_lives.proofs.Renewals.{place, standing, Holds, Rests, fewer_hold, fewer_stand, found_same, found_so, holds_of, other_losses, renewed}
use Rattle.load_lives.proofs.Running.{Ran, ran}
use Rattle.load_lives.proofs.LastTurns.{Broken, broken, back, mark_verifies_none}
use Rattle.load_lives.proofs.LastTurns.Broken.{between_turns, in_turn}
use Rattle.load_lives.proofs.Starting.{typed_run}
use Rattle.honest_line.proofs.Going.{MayRun}
use Rattle.load_lives.proofs.Records.{Remains, remains, CanBeRead, says_sound, says_once}

-- ---- one life as a run of the world, in which a key that was not sent counts as lost

whole_passes : (core : Core) (things : List Heard) (items : List Item) (unsent : Option ℕ) (x y : Wire) → dialogue core things ≡ items ++ said unsent → Passes x items y →
    Passes x (dialogue core things) (record y { lost = length (option_to_list unsent) + y.lost })
whole_passes core things items None x y is passes =
    subst (λ n. Passes x (dialogue core things) (record y { lost = n })) (none y.lost) (subst (λ list. Passes x list y) (sym (is ∙ append-nil items)) passes)
  where
    none : (n : ℕ) → n ≡ 0 + n
    none n = omega arith
whole_passes core things items (Some key) x y is passes =
    subst (λ list. Passes x list (record y { lost = 1 + y.lost })) (sym is) (passes_lost items key x y passes)

-- ---- what a record may say after a run

-- a line that was left so is in order for a progress with the host's mark and words that stand
holds_after : (plan : PlanValue) (before : List ℕ) (first core : Core) (x y : Wire) (keys : List ℕ) (recorded progress : Progress) → first.plan ≡ plan → core.plan ≡ plan → IsSound plan recorded →
    ((i : ℕ) → i < standing plan recorded → IsThere (place plan x.machine i)) → IsSafe before first x.machine.memory → Ran (over first x) keys (over core y) →
    progress.going ≡ core.going → (progress ≡ recorded) ⊎ (progress.verified ≤ core.verified) → Holds plan before progress y
holds_after plan before first core x y keys recorded progress is same sound words safe run mark from = holds_of plan before core y progress same mark run.kept (stood from) (run.since before safe)
  where
    all_below : (g : Bool) (n v i : ℕ) → v ≤ n → i < (if g then n else v) → i < n
    all_below true n v i le below = below
    all_below false n v i le below = omega (arith, le, below)

    stood : (progress ≡ recorded) ⊎ (progress.verified ≤ core.verified) → (i : ℕ) → i < standing plan progress → IsThere (place plan y.machine i)
    stood (inl e) i below =
        let old : i < standing plan recorded = subst (λ (p : Progress). i < standing plan p) e below in
        let within : i < length plan.words = all_below recorded.going (length plan.words) recorded.verified i sound.within old in
        subst (λ (p : PlanValue). IsThere (place p y.machine i)) same
        (run.stand i (subst (λ (p : PlanValue). i < length p.words) (sym is) within) (subst (λ (p : PlanValue). IsThere (place p x.machine i)) (sym is) (words i old)))
    stood (inr le) i below =
        subst (λ (p : PlanValue). IsThere (place p y.machine i)) same
        (run.kept.words i (subst (λ (p : PlanValue). i < (if core.going then length p.words else core.verified)) (sym same)
        (fewer_stand progress.going core.going (length plan.words) progress.verified core.verified i mark le below)))

-- ---- the turn of a mark whose `G` was not sent

-- a core without the mark, to which the line was left as well: its last turn is taken back
record Unmarked (first last : Core) (x y : Wire) : Type 0 where
  pub core : Core
  pub lost : ℕ
  pub keys : List ℕ
  pub same_plan : core.plan ≡ first.plan
  pub same_care : core.careful ≡ first.careful
  pub unmarked : core.going ≡ false
  pub words : last.verified ≤ core.verified
  pub run : Ran (over first x) keys (over core (record y { lost = lost }))

not_set : (going : Bool) → (going ≡ true → ⊥) → going ≡ false
not_set true is = absurd (is refl)
not_set false is = refl

-- the dialogue ended with a key
pub last_key : (core : Core) (things : List Heard) (front : List Item) (key : ℕ) → dialogue core things ≡ front ++ Sent key ∷ [] →
    (first : List Heard) × (last : Heard) × (led core things ≡ (move (led core first) last).next) × (front ≡ dialogue core first ++ Came last ∷ []) × ((move (led core first) last).key ≡ Some key)
last_key core things front key is = one (broken core things front (Sent key ∷ []) is)
  where
    ended : (core : Core) (more : List Heard) → [] ≡ dialogue core more → more ≡ []
    ended core [] e = refl
    ended core (what ∷ more) e = absurd (cc)

    no_start : (core : Core) (more : List Heard) → Sent key ∷ [] ≡ dialogue core more → ⊥
    no_start core [] e = cc e
    no_start core (what ∷ more) e = let same : Sent key ≡ Came what = cc e in cc same

    one : Broken core things front (Sent key ∷ []) →
        (first : List Heard) × (last : Heard) × (led core things ≡ (move (led core first) last).next) × (front ≡ dialogue core first ++ Came last ∷ []) × ((move (led core first) last).key ≡ Some key)
    one (between_turns first more split whole left) = absurd (no_start (led core first) more left)
    one (in_turn first last more k split cut sends left) =
        let same : Sent key ≡ Sent k = cc left in
        let key_is : key ≡ k = cc same in
        let none : more ≡ [] = ended (move (led core first) last).next more (cc left) in
        (first, last, ap (led core) (split ∙ ap (λ l. first ++ last ∷ l) none) ∙ led_join core first (last ∷ []), cut, sends ∙ ap (λ c. Some c) (sym key_is))

-- the core before a key was sent has no mark, and the turn of a mark verifies nothing
taken_back : (first : Core) (things : List Heard) (items : List Item) (unsent : Option ℕ) (x y : Wire) → IsKept (over first x) → first.going ≡ false → (led first things).going ≡ true →
    StartsOnce first (led first things) (replay first things) → (Contains (keys_of items) go → ⊥) → dialogue first things ≡ items ++ said unsent → Passes x items y → Unmarked first (led first things) x y
taken_back first things items None x y k unset set starts never is passes =
    absurd (never (subst (λ keys. Contains keys go) (sym (keys_of-dialogue things first) ∙ ap keys_of (is ∙ append-nil items)) (starts.marked.1 (unset, set))))
taken_back first things items (Some key) x y k unset set starts never is passes =
    let l = last_key first things items key is in
    let core = led first l.0 in
    let host : IsHost core = led_kept first l.0 k.host in
    let unmarked : core.going ≡ false = not_set core.going (λ h. let none : (move core l.1).key ≡ None = (silent core l.1 host h).key in absurd (no_key (move core l.1).key key l.4 none)) in
    let b = back (dialogue first l.0) l.1 x y (subst (λ list. Passes x list y) l.3 passes) in record {
      core = core;
      lost = b.0;
      keys = replay first l.0;
      same_plan = led_plan first l.0;
      same_care = led_care first l.0;
      unmarked = unmarked;
      words = mark_verifies_none core l.1 (led first things) l.2 unmarked set;
      run = ran (over first x) (over core (record y { lost = b.0 })) (replay first l.0) k (dialogue_leads l.0 first x (record y { lost = b.0 }) b.1);
    }
  where
    no_key : (o : Option ℕ) (key : ℕ) → o ≡ Some key → o ≡ None → ⊥
    no_key None key e f = cc e
    no_key (Some c) key e f = cc f

-- ---- between two lives

-- what the lives so far leave, which sent these keys, for the lives after them
pub record Stood (plan : PlanValue) (before : List ℕ) (keys : List ℕ) (now : WireAndRecord) : Type 0 where
  pub progress : Progress
  pub says : Says plan now.text (Ok progress)
  pub rests : Rests plan before progress now.wire
  pub last : EndsAtGo keys
  pub marked : Contains keys go → progress.going ≡ true

-- ---- one more life

-- the keys of the lives so far and of one more
keys_end : (keys : List ℕ) (items : List Item) (unsent : Option ℕ) (replayed : List ℕ) → replayed ≡ keys_of items ++ keys_of (said unsent) → EndsAtGo keys → EndsAtGo replayed →
    (Contains keys go → replayed ≡ []) → EndsAtGo (keys ++ keys_of items)
keys_end keys items unsent replayed is one more none =
    ends_join keys (keys_of items) one (ends_front (keys_of items) (keys_of (said unsent)) (subst EndsAtGo is more)) (λ h. front (keys_of items) (keys_of (said unsent)) (sym is ∙ none h))
  where
    front : (xs ys : List ℕ) → xs ++ ys ≡ [] → xs ≡ []
    front [] ys e = refl
    front (x ∷ xs) ys e = absurd (cc)

-- a life that did nothing
abbrev pub idle : Bool → ℕ → Progress → Life
idle careful patience progress = record { careful = careful; patience = patience; progress = progress; heard = []; items = []; unsent = None }

-- what one more life leaves, and what it may be trusted with
pub record Went (plan : PlanValue) (before : List ℕ) (keys : List ℕ) (life : Life) (new : WireAndRecord) : Type 0 where
  pub stood : Stood plan before (keys ++ keys_of life.items) new
  pub trusted : IsTrusted before (last_core plan life) new.wire.machine.memory (keys ++ keys_of life.items) (length (option_to_list life.unsent) + new.wire.lost)

-- the text's progress has the core's mark, or lacks it, and then the last turn is taken back
holds_now : (plan : PlanValue) (before : List ℕ) (first last : Core) (x y : Wire) (lost : ℕ) (keys : List ℕ) (recorded progress : Progress) → first.plan ≡ plan → last.plan ≡ plan → IsSound plan recorded →
    ((i : ℕ) → i < standing plan recorded → IsThere (place plan x.machine i)) → IsSafe before first x.machine.memory → Ran (over first x) keys (over last (record y { lost = lost })) →
    (progress ≡ recorded) ⊎ (progress.verified ≤ last.verified) → (progress.going ≡ true → last.going ≡ true) → (progress.going ≡ false → last.going ≡ true → Unmarked first last x y) → Holds plan before progress y
holds_now plan before first last x y lost keys recorded progress is same sound words safe run from marked back_to = by progress.going last.going refl refl
  where
    here : progress.going ≡ last.going → Holds plan before progress y
    here mark =
        other_losses plan before progress (record y { lost = lost }) y.lost (holds_after plan before first last x (record y { lost = lost }) keys recorded progress is same sound words safe run mark from)

    less : (c : ℕ) → last.verified ≤ c → (progress ≡ recorded) ⊎ (progress.verified ≤ last.verified) → (progress ≡ recorded) ⊎ (progress.verified ≤ c)
    less c le (inl e) = inl e
    less c le (inr few) = inr (omega (arith, le, few))

    there : progress.going ≡ false → Unmarked first last x y → Holds plan before progress y
    there unset u =
        other_losses plan before progress (record y { lost = u.lost }) y.lost
        (holds_after plan before first u.core x (record y { lost = u.lost }) u.keys recorded progress is (u.same_plan ∙ is) sound words safe u.run (unset ∙ sym u.unmarked) (less u.core.verified u.words from))

    by : (g h : Bool) → progress.going ≡ g → last.going ≡ h → Holds plan before progress y
    by true true e f = here (e ∙ sym f)
    by false false e f = here (e ∙ sym f)
    by true false e f = let set = marked e in absurd (cc)
    by false true e f = there e (back_to e f)

-- a core that this life brought to the mark has every word, and so can be read
readable : (careful : Bool) (plan : PlanValue) (verified patience : ℕ) (things : List Heard) → IsHost (begun_by careful plan verified false patience) →
    StartsOnce (begun_by careful plan verified false patience) (led (begun_by careful plan verified false patience) things) (replay (begun_by careful plan verified false patience) things) →
    CanBeRead plan (led (begun_by careful plan verified false patience) things)
readable careful plan verified patience things host starts =
    let first = begun_by careful plan verified false patience in
    let last = led first things in
    let kept : IsHost last = led_kept first things host in
    let same : last.plan ≡ plan = led_plan first things in record {
      within = subst (λ (p : PlanValue). last.verified ≤ length p.words) same kept.within;
      marked = λ set. (
        (starts_only_whole careful plan verified false patience host things (starts.marked.1 (refl, set))).1,
        subst (λ (p : PlanValue). IsSome p.start) same (has_start last.going last.plan.start last.phase kept.mark set),
      );
    }
  where
    has_start : (going : Bool) (start : Option ℕ) (phase : Phase) → MarkFits going start phase → going ≡ true → IsSome start
    has_start true start phase m e = m.0
    has_start false start phase m e = absurd (cc)

can_be_read : (careful : Bool) (plan : PlanValue) (verified : ℕ) (going : Bool) (patience : ℕ) (things : List Heard) → going ≡ false → IsHost (begun_by careful plan verified going patience) →
    StartsOnce (begun_by careful plan verified going patience) (led (begun_by careful plan verified going patience) things) (replay (begun_by careful plan verified going patience) things) →
    CanBeRead plan (led (begun_by careful plan verified going patience) things)
can_be_read careful plan verified true patience things unset host starts = absurd (cc)
can_be_read careful plan verified false patience things unset host starts = readable careful plan verified patience things host starts

-- a life that found no key under way
went_rested : (plan : PlanValue) (before keys : List ℕ) (between : WireAndRecord) (life : Life) (new : WireAndRecord) → IsPlan plan → Stood plan before keys between →
    (l : IsLife plan between life new) → l.line.found.down ≡ [] → l.line.found.lost ≡ 0 → Went plan before keys life new
went_rested plan before keys between life new fits s l none unlost =
    let x : Wire = l.line.found in
    let first : Core = first_core plan life in
    let last : Core = last_core plan life in
    let replayed : List ℕ = replay first life.heard in
    let unsent : ℕ = length (option_to_list life.unsent) in
    let recorded : Progress = l.goes_on.recorded in
    let sound : IsSound plan recorded = says_sound plan between.text recorded l.goes_on.says in
    let same : s.progress ≡ recorded = says_once plan between.text s.progress recorded s.says l.goes_on.says in
    let holds : Holds plan before recorded x = subst (λ (p : Progress). Holds plan before p x) same (found_so plan before s.progress between.wire x l.line.reopens s.rests) in
    let kept : IsKept (over first x) = subst (λ n. IsKept (over first (record x { lost = n }))) (sym unlost)
    (renewed life.careful plan before life.progress life.patience x fits (let few = l.goes_on.fewer in let all = sound.within in omega (arith, few, all)) (λ set. (sound.marked (sym l.goes_on.same_mark ∙ set)).1) l.patient
    (fewer_hold plan before recorded life.progress x l.goes_on.fewer l.goes_on.same_mark holds) none) in
    let safe : IsSafe before first x.machine.memory = safe_of before (over first x) kept holds.bytes in
    let runs : ((y : Wire) → Passes x life.items y → Ran (over first x) replayed (over last (record y { lost = unsent + y.lost }))) = λ y passes.
    ran (over first x) (over last (record y { lost = unsent + y.lost })) replayed kept (dialogue_leads life.heard first x (record y { lost = unsent + y.lost }) (whole_passes first life.heard life.items life.unsent x y l.stopped passes)) in
    let run = runs new.wire l.line.passes in
    let plan_same : last.plan ≡ plan = led_plan first life.heard in
    let keys_are : replayed ≡ keys_of life.items ++ keys_of (said life.unsent) = sym (keys_of-dialogue life.heard first) ∙ (ap keys_of l.stopped ∙ keys_join life.items (said life.unsent)) in
    let marked_before : (Contains keys go → first.going ≡ true) = λ h. l.goes_on.same_mark ∙ (ap (λ (p : Progress). p.going) (sym same) ∙ s.marked h) in
    let sets : (Contains (keys_of life.items) go → last.going ≡ true) =
    λ h. (run.starts.marked.0 (subst (λ list. Contains list go) (sym keys_are) (Contains-append_left (keys_of life.items) (keys_of (said life.unsent)) go h))).1 in
    let left : Remains plan recorded life.progress last life.items new.text =
    remains plan recorded life.progress last life.items between.text new.text fits l.goes_on.same_mark run.starts.stays
    (λ unset. can_be_read life.careful plan life.progress.verified life.progress.going life.patience life.heard unset kept.host run.starts) sets l.goes_on.says l.left in
    let back_to : ((y : Wire) → Passes x life.items y → left.progress.going ≡ false → last.going ≡ true → Unmarked first last x y) = λ y passes unset set.
    taken_back first life.heard life.items life.unsent x y kept (not_set first.going (λ h. let on = left.stays h in absurd (cc))) set run.starts (λ h. let on = left.sent h in absurd (cc)) l.stopped passes in
    let ends : EndsAtGo (keys ++ keys_of life.items) = keys_end keys life.items life.unsent replayed keys_are s.last run.starts.last (λ h. run.starts.silent (marked_before h)) in record {
      stood = record {
        progress = left.progress;
        says = left.says;
        rests = λ y moves.
            let passes : Passes x life.items y = passes_on life.items x new.wire y l.line.passes moves in
            holds_now plan before first last x y (unsent + y.lost) replayed recorded left.progress refl plan_same sound holds.words safe (runs y passes) left.from left.marked (back_to y passes);
        last = ends;
        marked = λ h. elim (Contains-append_cases keys (keys_of life.items) go h) [ inl early ↦ left.stays (marked_before early) | inr now ↦ left.sent now ];
      };
      trusted = record {
        safe = run.since before safe;
        last = ends;
        marked = λ h. elim (Contains-append_cases keys (keys_of life.items) go h) [ inl early ↦ run.starts.stays (marked_before early) | inr now ↦ sets now ];
        spent = run.kept.spent;
        cause = (tame_of (over last (record new.wire { lost = unsent + new.wire.lost })) run.kept).cause;
      };
    }

-- ---- a key that is under way

-- a line in order on which no key is under way stays so, whatever it does by itself
pub rests_there : (plan : PlanValue) (before : List ℕ) (text : List ℕ) (progress : Progress) (x : Wire) → IsPlan plan → Says plan text (Ok progress) → Holds plan before progress x → x.down ≡ [] → Rests plan before progress x
rests_there plan before text progress x fits says h none y moves =
    let core : Core = begun plan progress.verified progress.going 0 in
    let sound : IsSound plan progress = says_sound plan text progress says in
    let kept : IsKept (over core (forgiven x)) = renewed false plan before progress 0 x fits sound.within (λ set. (sound.marked set).1) (omega arith) h none in
    let f = passes_fewer x.lost [] (forgiven x) y (subst (λ n. Passes (record x { lost = n }) [] y) (nothing_lost x.lost) moves) in
    let run : Ran (over core (forgiven x)) [] (over core f.0) = ran (over core (forgiven x)) (over core f.0) [] kept (dialogue_leads [] core (forgiven x) f.0 f.2) in
    subst (Holds plan before progress) (sym f.1) (other_losses plan before progress f.0 (x.lost + f.0.lost)
    (holds_after plan before core core (forgiven x) f.0 [] progress progress refl refl sound h.words (safe_of before (over core (forgiven x)) kept h.bytes) run refl (inl refl)))

-- before a host heard anything the line came to rest: whatever key was under way was taken or lost
pub record HasComeToRest (plan : PlanValue) (before keys text : List ℕ) (items : List Item) (z : Wire) : Type 0 where
  pub rest : Wire
  pub none_down : rest.down ≡ []
  pub passes : Passes rest items z
  pub stood : Stood plan before keys (record { wire = rest; text = text })

pub came_to_rest : (plan : PlanValue) (before keys : List ℕ) (between : WireAndRecord) (found : Wire) (what : Heard) (more : List Item) (z : Wire) → IsPlan plan → Stood plan before keys between → Reopens between.wire found → Passes found (Came what ∷ more) z →
    HasComeToRest plan before keys between.text (Came what ∷ more) z
came_to_rest plan before keys between found what more z fits s reopens passes = by reopens
  where
    at : (rest : Wire) → rest.down ≡ [] → Passes rest (Came what ∷ more) z → Holds plan before s.progress rest → HasComeToRest plan before keys between.text (Came what ∷ more) z
    at rest none on holds = record {
      rest = rest;
      none_down = none;
      passes = on;
      stood = record { progress = s.progress; says = s.says; rests = rests_there plan before between.text s.progress rest fits s.says holds none; last = s.last; marked = s.marked };
    }

    holds : Holds plan before s.progress found
    holds = found_so plan before s.progress between.wire found reopens s.rests

    by : Reopens between.wire found → HasComeToRest plan before keys between.text (Came what ∷ more) z
    by (inl same) =
        let r = heard_rests what more found z (record { one_way = holds.one_way; few = holds.few }) passes in
        at r.rest r.none_down r.passes (found_same plan before s.progress between.wire found same s.rests r.rest r.moves)
    by (inr (waiting, few, new)) = at found (ap (λ (x : Wire). x.down) new) passes holds

-- what lives leave does not tell how much was lost
pub later_stood : (plan : PlanValue) (before keys : List ℕ) (k : ℕ) (y : Wire) (text : List ℕ) → Stood plan before keys (record { wire = y; text = text }) → Stood plan before keys (record { wire = later k y; text = text })
later_stood plan before keys k y text s = record { progress = s.progress; says = s.says; rests = counted_later; last = s.last; marked = s.marked }
  where
    counted_later : Rests plan before s.progress (later k y)
    counted_later z moves =
        let f = passes_fewer k [] y z moves in
        subst (Holds plan before s.progress) (sym f.1) (other_losses plan before s.progress f.0 (k + f.0.lost) (s.rests f.0 f.2))

-- losses more take no trust away
trusted_more : (before : List ℕ) (core : Core) (now keys : List ℕ) (lost more : ℕ) → lost ≤ more → IsTrusted before core now keys lost → IsTrusted before core now keys more
trusted_more before core now keys lost more le t = record {
  safe = t.safe;
  last = t.last;
  marked = t.marked;
  spent = let few = t.spent in omega (arith, le, few);
  cause = has_cause core.phase now core.patience core.spent lost more le t.cause;
}

-- a life that heard something
went_heard : (plan : PlanValue) (before keys : List ℕ) (between : WireAndRecord) (life : Life) (what : Heard) (more : List Item) (new : WireAndRecord) → life.items ≡ Came what ∷ more → IsPlan plan → Stood plan before keys between →
    IsLife plan between life new → Went plan before keys life new
went_heard plan before keys between life what more new is fits s l =
    let at = came_to_rest plan before keys between l.line.found what more new.wire fits s l.line.reopens (subst (λ items. Passes l.line.found items new.wire) is l.line.passes) in
    let here : Passes at.rest life.items new.wire = subst (λ items. Passes at.rest items new.wire) (sym is) at.passes in
    let f = passes_fewer at.rest.lost life.items (forgiven at.rest) new.wire (subst (λ n. Passes (record at.rest { lost = n }) life.items new.wire) (nothing_lost at.rest.lost) here) in
    let y : Wire = f.0 in
    let unsent : ℕ = length (option_to_list life.unsent) in
    let sent : List ℕ = keys ++ keys_of life.items in
    let w : Went plan before keys life (record { wire = y; text = new.text }) =
    went_rested plan before keys (record { wire = at.rest; text = between.text }) life (record { wire = y; text = new.text }) fits at.stood
    (record { patient = l.patient; goes_on = l.goes_on; stopped = l.stopped; line = record { found = forgiven at.rest; reopens = inl refl; passes = f.2 }; left = l.left }) at.none_down refl in
    record {
      stood = subst (λ x. Stood plan before sent (record { wire = x; text = new.text })) (sym f.1) (later_stood plan before sent at.rest.lost y new.text w.stood);
      trusted = subst (λ (x : Wire). IsTrusted before (last_core plan life) x.machine.memory sent (unsent + x.lost)) (sym f.1)
          (trusted_more before (last_core plan life) y.machine.memory sent (unsent + y.lost) (unsent + (at.rest.lost + y.lost)) (omega arith) w.trusted);
    }

-- one that heard nothing said nothing, and left the line to itself
went_idle : (plan : PlanValue) (before keys : List ℕ) (between : WireAndRecord) (careful : Bool) (patience : ℕ) (progress : Progress) (new : WireAndRecord) → IsPlan plan → Stood plan before keys between →
    IsLife plan between (idle careful patience progress) new → Went plan before keys (idle careful patience progress) new
went_idle plan before keys between careful patience progress new fits s l = by l.line.reopens
  where
    first : Core
    first = begun_by careful plan progress.verified progress.going patience

    recorded : Progress
    recorded = l.goes_on.recorded

    sound : IsSound plan recorded
    sound = says_sound plan between.text recorded l.goes_on.says

    same : s.progress ≡ recorded
    same = says_once plan between.text s.progress recorded s.says l.goes_on.says

    nothing_sent : Contains [] go → ⊥
    nothing_sent h = let below = h.1 in omega arith

    unmarked_sound : progress.going ≡ false → CanBeRead plan first
    unmarked_sound unset = record { within = (let few = l.goes_on.fewer in let all = sound.within in omega (arith, few, all)); marked = λ set. absurd (cc) }

    left : Remains plan recorded progress first [] new.text
    left = remains plan recorded progress first [] between.text new.text fits l.goes_on.same_mark (λ h. h) unmarked_sound (λ h. absurd (nothing_sent h)) l.goes_on.says l.left

    both : (a b : Bool) → (a ≡ true → b ≡ true) → (b ≡ true → a ≡ true) → a ≡ b
    both true b there again = sym (there refl)
    both false true there again = again refl
    both false false there again = refl

    mark : left.progress.going ≡ recorded.going
    mark = both left.progress.going progress.going left.marked left.stays ∙ l.goes_on.same_mark

    fewer : (left.progress ≡ recorded) ⊎ (left.progress.verified ≤ progress.verified) → left.progress.verified ≤ recorded.verified
    fewer (inl e) = subst (λ (p : Progress). p.verified ≤ recorded.verified) (sym e) (omega arith)
    fewer (inr few) = let more = l.goes_on.fewer in omega (arith, few, more)

    rests : l.line.found ≡ forgiven between.wire → Rests plan before recorded new.wire
    rests is y moves = subst (λ (p : Progress). Holds plan before p y) same (found_same plan before s.progress between.wire l.line.found is s.rests y (any_then Moves l.line.found new.wire y l.line.passes moves))

    sent_none : (P : List ℕ → Type 0) → P keys → P (keys ++ [])
    sent_none P p = subst P (sym (append-nil keys)) p

    safe : Holds plan before recorded new.wire → IsSafe before first new.wire.machine.memory
    safe holds =
        let silent : Wire = resting new.wire.machine [] 0 in
        let here : Holds plan before progress silent = record {
          machine = holds.machine;
          one_way = tt;
          few = omega arith;
          words = (fewer_hold plan before recorded progress new.wire l.goes_on.fewer l.goes_on.same_mark holds).words;
          running = (fewer_hold plan before recorded progress new.wire l.goes_on.fewer l.goes_on.same_mark holds).running;
          at_start = holds.at_start;
          bytes = holds.bytes;
        } in
        safe_of before (over first silent) (renewed careful plan before progress patience silent fits (let few = l.goes_on.fewer in let all = sound.within in omega (arith, few, all)) (λ set. (sound.marked (sym l.goes_on.same_mark ∙ set)).1) l.patient here refl) holds.bytes

    by : Reopens between.wire l.line.found → Went plan before keys (idle careful patience progress) new
    by (inr (waiting, few, is)) = went_rested plan before keys between (idle careful patience progress) new fits s l (ap (λ (x : Wire). x.down) is) (ap (λ (x : Wire). x.lost) is)
    by (inl is) = record {
      stood = record {
        progress = left.progress;
        says = left.says;
        rests = λ y moves. fewer_hold plan before recorded left.progress y (fewer left.from) mark (rests is y moves);
        last = sent_none EndsAtGo s.last;
        marked = sent_none (λ list. Contains list go → left.progress.going ≡ true) (λ h. mark ∙ (ap (λ (p : Progress). p.going) (sym same) ∙ s.marked h));
      };
      trusted = record {
        safe = safe (rests is new.wire (none_moves new.wire));
        last = sent_none EndsAtGo s.last;
        marked = sent_none (λ list. Contains list go → progress.going ≡ true) (λ h. l.goes_on.same_mark ∙ (ap (λ (p : Progress). p.going) (sym same) ∙ s.marked h));
        spent = omega arith;
        cause = began_caused progress.going (eqb progress.verified (length plan.words) && is_none plan.start) (0 + new.wire.lost);
      };
    }
      where
        began_caused : (going done : Bool) (lost : ℕ) → HasCause (if going then Ended MaybeStarted else (if done then Ended Loaded else Settle)) new.wire.machine.memory patience 0 lost
        began_caused true done lost = tt
        began_caused false true lost = tt
        began_caused false false lost = tt

went_by : (plan : PlanValue) (before keys : List ℕ) (between : WireAndRecord) (careful : Bool) (patience : ℕ) (progress : Progress) (heard : List Heard) (items : List Item) (unsent : Option ℕ) (new : WireAndRecord) → IsPlan plan → Stood plan before keys between →
    IsLife plan between (record { careful = careful; patience = patience; progress = progress; heard = heard; items = items; unsent = unsent }) new →
    Went plan before keys (record { careful = careful; patience = patience; progress = progress; heard = heard; items = items; unsent = unsent }) new
went_by plan before keys between careful patience progress [] [] None new fits s l = went_idle plan before keys between careful patience progress new fits s l
went_by plan before keys between careful patience progress [] [] (Some key) new fits s l = let says = l.stopped in absurd (cc says)
went_by plan before keys between careful patience progress [] (item ∷ items) unsent new fits s l = let says = l.stopped in absurd (cc says)
went_by plan before keys between careful patience progress (what ∷ heard) [] None new fits s l = let says = l.stopped in absurd (cc says)
went_by plan before keys between careful patience progress (what ∷ heard) [] (Some key) new fits s l = let says = l.stopped in absurd (cc says)
went_by plan before keys between careful patience progress (what ∷ heard) (Sent key ∷ items) unsent new fits s l = let says = l.stopped in absurd (cc says)
went_by plan before keys between careful patience progress (what ∷ heard) (Came first ∷ items) unsent new fits s l =
    went_heard plan before keys between (record { careful = careful; patience = patience; progress = progress; heard = what ∷ heard; items = Came first ∷ items; unsent = unsent }) first items new refl fits s l

pub went : (plan : PlanValue) (before keys : List ℕ) (between : WireAndRecord) (life : Life) (new : WireAndRecord) → IsPlan plan → Stood plan before keys between → IsLife plan between life new → Went plan before keys life new
went plan before keys between life new fits s l = went_by plan before keys between life.careful life.patience life.progress life.heard life.items life.unsent new fits s l

-- ---- all lives

pub opens : (plan : PlanValue) (old : WireAndRecord) → IsPlan plan → MayOpen plan old → Stood plan old.wire.machine.memory [] old
opens plan old fits may =
    let core : Core = begun plan may.progress.verified false 0 in
    let before : List ℕ = old.wire.machine.memory in
    let sound : IsSound plan may.progress = says_sound plan old.text may.progress may.says in
    let host : IsHost core = begun_kept plan may.progress.verified false 0 fits sound.within (omega arith) (λ set. absurd (cc)) in
    let kept : IsKept (over core (record { machine = old.wire.machine; down = []; up = old.wire.up; lost = 0 })) =
    opening_kept old.wire.machine plan may.progress.verified 0 old.wire.up may.begins.console host may.few may.begins.stopped
    (λ i below. (may.begins.verified.lies i below, merged-Stands (word_nr plan.words i) _ (may.begins.verified.stands i below))) in
    let at_rest : IsKept (over core (record old.wire { lost = 0 })) =
    subst (λ down. IsKept (over core (record { machine = old.wire.machine; down = down; up = old.wire.up; lost = 0 }))) (sym may.none_down) kept in
    let holds : Holds plan before may.progress (record old.wire { lost = 0 }) = holds_of plan before core (record old.wire { lost = 0 }) may.progress refl may.no_mark at_rest
    (λ i below. at_rest.words i (fewer_stand may.progress.going false (length plan.words) may.progress.verified may.progress.verified i may.no_mark (omega arith) below))
    (safe_of before (over core (record old.wire { lost = 0 })) at_rest (record { size = refl; bytes = λ b below. inl refl })) in record {
      progress = may.progress;
      says = may.says;
      rests = rests_there plan before old.text may.progress old.wire fits may.says (other_losses plan before may.progress (record old.wire { lost = 0 }) old.wire.lost holds) may.none_down;
      last = tt;
      marked = λ h. absurd (none h);
    }
  where
    none : Contains [] go → ⊥
    none h = let below = h.1 in omega arith

stood : (plan : PlanValue) (before : List ℕ) (lives : List Life) (old new : WireAndRecord) → IsPlan plan → Stood plan before [] old → AreLives plan old lives new → Stood plan before (typed lives) new
stood plan before [] old new fits s same = subst (Stood plan before []) (sym same) s
stood plan before (life ∷ earlier) old new fits s (between, lived, l) = (went plan before (typed earlier) between life new fits (stood plan before earlier old between fits s lived) l).stood

latest : (plan : PlanValue) (before : List ℕ) (lives : List Life) (old new : WireAndRecord) → IsPlan plan → Stood plan before [] old → AreLives plan old lives new → IsLatestTrusted plan before lives new
latest plan before [] old new fits s lived = tt
latest plan before (life ∷ earlier) old new fits s (between, lived, l) = (went plan before (typed earlier) between life new fits (stood plan before earlier old between fits s lived) l).trusted

-- what stands may be trusted, where no program runs but by `G`
pub trusted : (plan : PlanValue) (before keys : List ℕ) (now : WireAndRecord) → IsPlan plan → Stood plan before keys now → RunsByGo now.wire.machine keys → AreTrusted plan before keys now
trusted plan before keys now fits s by_go = record {
  progress = s.progress;
  says = s.says;
  safe = safe_of before (over (begun plan s.progress.verified s.progress.going 0) silent) (renewed false plan before s.progress 0 silent fits sound.within (λ set. (sound.marked set).1) (omega arith) holds refl) holds.bytes;
  last = s.last;
  marked = s.marked;
  by_go = by_go;
}
  where
    sound : IsSound plan s.progress
    sound = says_sound plan now.text s.progress s.says

    -- the same line with nothing under way
    silent : Wire
    silent = resting now.wire.machine [] 0

    holds : Holds plan before s.progress silent
    holds = found_so plan before s.progress now.wire silent (inr ([], omega arith, refl)) s.rests

pub lives_are_trusted : LivesAreTrusted
lives_are_trusted plan old new lives fits may lived =
    let first = opens plan old fits may in (
      trusted plan old.wire.machine.memory (typed lives) new fits (stood plan old.wire.machine.memory lives old new fits first lived) (λ runs. typed_run plan lives old new still lived (inl runs)),
      latest plan old.wire.machine.memory lives old new fits first lived,
    )
  where
    none : (down : List ℕ) → down ≡ [] → Contains down go → ⊥
    none down is has = let below = (subst (λ (l : List ℕ). Contains l go) is has).1 in omega (arith, below)

    still : MayRun old.wire → ⊥
    still (inl runs) = let stopped = may.begins.stopped in cc
    still (inr has) = none old.wire.down may.none_down has
